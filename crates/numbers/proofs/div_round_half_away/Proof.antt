-- `numbers::div_round_half_away` meets its contract: the magnitude's quotient with n's sign. Assumes nothing.
use mathlib.Core.Path.{◌≡◌, subst, sym, ◌∙◌, ap}
use Prim.Native.Nat.{◌<◌, ℕ, ◌≤◌, ◌+◌, ◌/◌}
use native.Mathlib.Omega.{arith}
use lib.IntN.{pos, ℤ, nat_abs, neg_ℤ}
use lib.Signed.{nat_abs-le, ◌<ℤ◌, ◌≤ℤ◌}
use mir.Facts.{to_z-of_z, to_z_pos}
use mir.Syntax.{w32}
use borrow.Author.Rules.{rules}
use Rattle.numbers.proofs.Integers.{lt-false, lt-true, halves, zarith}
use Rattle.numbers.proofs.Rounding.{by_zero, nearest, half-up-le, div-neg, div-pos}
use Rattle.numbers.proofs.Words.{cast_us, held, fits_up}
use Rattle.numbers.proofs.div_round_half_away.Statement.{statement}
use Rattle.numbers.specs.Rounding.{Nearest, div_away}
use Rattle.numbers.proofs.div_round_half_away.Tie as tie

-- both clauses, of a result that is the definition's
both : (n : ℤ) (d : ℕ) (r : ℤ) → r ≡ div_away n d → (r ≡ div_away n d) × (0 < d → Nearest n d r)
both n d r e = (e, λ h. subst (Nearest n d) (sym e) (nearest n d h))

returns-then-d-eq0 : tie.Need-returns-then-d-eq0
returns-then-d-eq0 c =
    let s = c.before in
    both s.args.n s.args.d (pos 0) (rw c.if-d-eq0.true (sym (by_zero s.args.n)))

abs-requires : tie.Need-abs-requires
abs-requires c κs = search rules

-- n's magnitude, and the quotient of it
size : (c : tie.After-abs) → (c.abs.result ≡ nat_abs c.args.n) × (nat_abs c.args.n ≤ 2147483648)
size c =
    let s = c.before.before in
    (c.abs.ensures ∙ simp (to_z-of_z, s.ranges.n), nat_abs-le s.args.n s.ranges.n.sfits)

positive : (c : tie.After-abs) → 0 < c.args.d
positive c = let h = c.if-d-eq0.false in omega arith

overflow_add-q : tie.Need-overflow_add-q
overflow_add-q c = record { fits = omega (arith, size c, c.ranges.d.fits) }

nonzero_div-q-2 : tie.Need-nonzero_div-q-2
nonzero_div-q-2 c = search rules

negative-requires : tie.Need-negative-requires
negative-requires c κs =
    let a = c.before in
    omega (arith, half-up-le a.abs.result a.args.d (positive a), size a)

-- the code's quotient, by n's magnitude
quotient : (c : tie.After-abs) → (c.abs.result + c.args.d / 2) / c.args.d ≡ (nat_abs c.args.n + c.args.d / 2) / c.args.d
quotient c = let d = c.args.d in ap (λ (a : ℕ). (a + d / 2) / d) (size c).0

upper : (c : tie.Else-n-lt0) → pos 0 ≤ℤ c.args.n
upper c = lt-false _ _ (simp (to_z-of_z, c.ranges.n) at c.if-n-lt0.false)

small : (c : tie.Else-n-lt0) → (c.abs.result + c.args.d / 2) / c.args.d < 2147483648
small c =
    let a = c.before in
    let n = a.args.n in
    let h : nat_abs n < 2147483648 = omega (zarith, halves n, upper c, fits_up a.ranges.n) in
    omega (arith, half-up-le a.abs.result a.args.d (positive a), size a)

overflow_cast-result : tie.Need-overflow_cast-result
overflow_cast-result c = cast_us (small c)

returns-then-n-lt0 : tie.Need-returns-then-n-lt0
returns-then-n-lt0 c =
    let a = c.before.before in
    let s = a.before.before in
    let low : s.args.n <ℤ pos 0 = lt-true _ _ (simp (to_z-of_z, s.ranges.n) at c.if-n-lt0.true) in
    both s.args.n s.args.d _
    (held c.negative.result c.negative.type_inv ∙ c.negative.ensures ∙ ap (λ (q : ℕ). neg_ℤ (pos q)) (quotient a) ∙ div-neg s.args.n s.args.d (positive a) low)

returns-else-n-lt0 : tie.Need-returns-else-n-lt0
returns-else-n-lt0 c =
    let a = c.before in
    let s = a.before.before in
    both s.args.n s.args.d _ (to_z_pos w32 (small c) ∙ ap pos (quotient a) ∙ div-pos s.args.n s.args.d (positive a) (upper c))

pub div_round_half_away_spec : {M : Type 1} → statement M
div_round_half_away_spec = tie.close (tie.spec returns-then-d-eq0 abs-requires overflow_add-q nonzero_div-q-2 negative-requires overflow_cast-result returns-then-n-lt0 returns-else-n-lt0)
