-- `headers::parts::read_cbpy` meets its contract: a row that six bits tell is the row. Assumes nothing.
use Rattle.std.proofs.Common.{Bool, Err, ap, arith, cond, length, sym, ◌∙◌}
use Rattle.bits.proofs.CursorLaws.{in_data_yes}
use Rattle.bits.specs.Bits.{bits_from}
use Rattle.codes.proofs.PrefixFree.{cbpy_prefix_free, cbpy_rows}
use Rattle.codes.specs.Header.{cbpy_codes, cbpy_lens, cbpy_short}
use Rattle.fields.specs.Answer.{got_told}
use Rattle.fields.specs.Inside.{invalid}
use Rattle.fields.specs.Reader.{code}
use Rattle.fields.specs.declared.code.CodeKind.TheVariants.{Header}
use Rattle.fields.specs.declared.error.TextureParseError.TheVariants.{OutOfRange}
use Rattle.numbers.proofs.Tests.{flag_passes, flag_refuses}
use Rattle.headers.proofs.PartLaws.{short_code}
use Rattle.headers.proofs.parts.read_cbpy.Goals as goal

pub returns-then-not-readable : goal.returns-then-not-readable
returns-then-not-readable c =
    let a = c.args in
    sym (ap (λ (t : Bool). cond t (got_told a.«data».now (code cbpy_codes cbpy_lens 6 16 (invalid Header) (bits_from a.«data».now a.c.bit_pos))) (Err OutOfRange)) (flag_refuses c.readable.ensures c.if-not-readable.true))

pub overflow_add-next : goal.overflow_add-next
overflow_add-next c = omega (arith, in_data_yes (length c.args.«data».now) c.args.c.bit_pos (flag_passes c.readable.ensures c.if-not-readable.false))

pub returns : goal.returns
unfolding cbpy_short
returns c =
    let a = c.args in
    let n = cbpy_rows.0 in
    short_code a.«data».now a.c.bit_pos cbpy_codes cbpy_lens 6 16 16 (invalid Header) cbpy_prefix_free (omega arith) (omega arith)
    c.cbpy_short-e.result (c.cbpy_short-e.ensures ∙ ap cbpy_short c.ahead.ensures) c.if-e-eq0.false (flag_passes c.readable.ensures c.if-not-readable.false) c.if-data-next.false
