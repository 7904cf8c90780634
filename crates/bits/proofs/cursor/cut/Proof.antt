-- `bits::cut` meets its contract: the bits stand inside the bytes that are gathered. Assumes nothing.
use mathlib.Core.Path.{◌≡◌, sym, ap, ◌∙◌}
use Prim.Native.Nat.{ℕ, ◌+◌, ◌-◌, ◌*◌, ◌/◌, ◌%◌, ◌^◌}
use native.Mathlib.Nat.{lt_of_lt_of_le, mod-lt}
use native.Mathlib.Omega.{arith}
use lib.Pow.{pow_mono, pow_pos}
use mir.Syntax.{w64}
use borrow.Author.Rules.{rules}
use Rattle.numbers.proofs.Words.{one_shl}
use Rattle.bits.proofs.CutLaws.{val-cut}
use Rattle.bits.proofs.cursor.cut.Statement.{statement}
use Rattle.bits.proofs.cursor.cut.Tie as tie

overflow_mul-under : tie.Need-overflow_mul-under
overflow_mul-under c = search rules

overflow_add-under : tie.Need-overflow_add-under
overflow_add-under c = search rules

overflow_sub-under : tie.Need-overflow_sub-under
overflow_sub-under c = search rules

gather-v-requires : tie.Need-gather-v-requires
gather-v-requires c κs = search rules

overflow_cast-result : tie.Need-overflow_cast-result
overflow_cast-result c = search rules

overflow_cast-result-2 : tie.Need-overflow_cast-result-2
overflow_cast-result-2 c = search rules

overflow_shr-result : tie.Need-overflow_shr-result
overflow_shr-result c = search rules

overflow_cast-result-3 : tie.Need-overflow_cast-result-3
overflow_cast-result-3 c = search rules

overflow_cast-result-4 : tie.Need-overflow_cast-result-4
overflow_cast-result-4 c = search rules

overflow_shl-result : tie.Need-overflow_shl-result
overflow_shl-result c = search rules

-- the divisor
power : (c : tie.After-gather-v) → (1 * 2 ^ c.args.n) % 18446744073709551616 ≡ 2 ^ c.args.n
power c = one_shl w64 c.args.n (omega arith)

nonzero_rem-result : tie.Need-nonzero_rem-result
nonzero_rem-result c = rw (power c) (pow_pos c.args.n)

overflow_cast-result-5 : tie.Need-overflow_cast-result-5
overflow_cast-result-5 c =
    let s = c.before.before in
    record { fits = rw (power c) (lt_of_lt_of_le (mod-lt _ (pow_pos s.args.n)) (pow_mono s.requires.1)) }

returns : tie.Need-returns
returns c =
    let a = c.args in
    let under : ℕ = 8 * a.count - (a.at % 8 + a.n) in
    ap (λ (m : ℕ). c.gather-v.result / 2 ^ under % m) (power c)
    ∙ ap (λ (v : ℕ). v / 2 ^ under % 2 ^ a.n) c.gather-v.ensures
    ∙ sym (val-cut a.«data».now a.at a.n under (8 * a.count) (omega arith) (omega arith))

pub cut_spec : {M : Type 1} → statement M
cut_spec =
    tie.close
    (tie.spec
    overflow_mul-under
    overflow_add-under
    overflow_sub-under
    gather-v-requires
    overflow_cast-result
    overflow_cast-result-2
    overflow_shr-result
    overflow_cast-result-3
    overflow_cast-result-4
    overflow_shl-result
    nonzero_rem-result
    overflow_cast-result-5
    returns)
