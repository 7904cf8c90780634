-- `headers::parts::read_flag` meets its contract: the highest of the next 32 bits, where one is left. Assumes nothing.
use Rattle.std.proofs.Common.{Bool, Err, Ok, ap, arith, cond, length, sym, true, ℕ, ◌%◌, ◌&&◌, ◌+◌, ◌/◌, ◌∙◌}
use Rattle.bits.proofs.CursorLaws.{in_data_yes}
use Rattle.bits.specs.Bits.{bits_from}
use Rattle.bits.specs.Cursor.{cursor_at}
use Rattle.fields.specs.Answer.{got_told}
use Rattle.fields.specs.Reader.{field}
use Rattle.fields.specs.declared.error.TextureParseError.TheVariants.{OutOfRange}
use Rattle.numbers.proofs.Tests.{flag_passes, flag_refuses}
use Rattle.headers.proofs.PartLaws.{no_bit, one_bit}
use Rattle.headers.proofs.parts.read_flag.Goals as goal

pub returns-then-not-readable : goal.returns-then-not-readable
returns-then-not-readable c =
    let a = c.args in
    sym (ap (λ (t : Bool). cond (t && true) (got_told a.«data».now (field 1 (bits_from a.«data».now a.c.bit_pos))) (Err OutOfRange)) (flag_refuses c.readable.ensures c.if-not-readable.true))

pub overflow_mul-data : goal.overflow_mul-data
overflow_mul-data c = omega (arith, in_data_yes (length c.args.«data».now) c.args.c.bit_pos (flag_passes c.readable.ensures c.if-not-readable.false))

pub returns-then-data-at : goal.returns-then-data-at
returns-then-data-at c = no_bit c.args.«data».now c.args.c.bit_pos (flag_passes c.readable.ensures c.if-not-readable.false) c.if-data-at.true

pub overflow_add-result : goal.overflow_add-result
overflow_add-result c = omega (arith, in_data_yes (length c.args.«data».now) c.args.c.bit_pos (flag_passes c.readable.ensures c.if-not-readable.false))

pub returns : goal.returns
returns c =
    let a = c.args in
    ap (λ (w : ℕ). Ok (w / 2147483648 % 2, cursor_at (a.c.bit_pos + 1))) c.ahead.ensures ∙ one_bit a.«data».now a.c.bit_pos (flag_passes c.readable.ensures c.if-not-readable.false) c.if-data-at.false
