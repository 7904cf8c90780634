-- `numbers::negative` meets its contract: -(m - 1) - 1, whose parts fit also at 2^31. Assumes nothing.
use mathlib.Core.Path.{◌≡◌}
use Prim.Native.Nat.{◌-◌, ◌<◌, ℕ}
use native.Mathlib.Omega.{arith}
use lib.IntN.{◌-ℤ◌, neg_ℤ, pos}
use mir.Facts.{to_z-of_z, to_z_pos}
use mir.Syntax.{w32}
use mir.Val.{SFits, to_z}
use borrow.Author.Rules.{rules}
use Rattle.numbers.proofs.Integers.{◌⊝◌, neg-dn, neg-up, ring, nat, neg}
use Rattle.numbers.proofs.Magnitudes.{abs-sub}
use Rattle.numbers.proofs.Words.{fits_abs, fits_half}
use Rattle.numbers.proofs.negative.Statement.{statement}
use Rattle.numbers.proofs.negative.Tie as tie

-- of an m that is not 0: 0 - (m - 1) and that less 1 fit, and the second is -m
module _ (m : ℕ) (p : 0 < m) (h : m < 2147483649) where
  whole : to_z w32 (m - 1) ≡ pos (m - 1)
  whole = to_z_pos w32 (omega arith)

  first : SFits w32 (pos 0 -ℤ pos (m - 1))
  first = fits_abs w32 (pos 0 -ℤ pos (m - 1)) (omega (arith, abs-sub (pos 0) (pos (m - 1))))

  minus : pos 0 -ℤ pos (m - 1) -ℤ pos 1 ≡ neg_ℤ (pos m)
  minus = ring (nat 0 ⊝ nat (m - 1) ⊝ nat 1) (neg (nat m)) (omega arith)

  second : SFits w32 (neg_ℤ (pos m))
  second = fits_half w32 (neg_ℤ (pos m)) (omega (arith, neg-up (pos m))) (omega (arith, neg-dn (pos m)))

overflow_sub-result : tie.Need-overflow_sub-result
overflow_sub-result c = search rules

overflow_cast-result : tie.Need-overflow_cast-result
overflow_cast-result c = search rules

positive : (c : tie.Else-m-eq0) → 0 < c.args.m
positive c = let n = c.if-m-eq0.false in omega arith

overflow_sub-result-else-m-eq0 : tie.Need-overflow_sub-result-else-m-eq0
overflow_sub-result-else-m-eq0 c = let s = c.before in rw (whole s.args.m (positive c) s.requires) (first s.args.m (positive c) s.requires)

overflow_sub-result-else-m-eq0-2 : tie.Need-overflow_sub-result-else-m-eq0-2
overflow_sub-result-else-m-eq0-2 c =
    let s = c.before in
    let m = s.args.m in
    let p = positive c in
    simp (whole m p s.requires, to_z-of_z, first m p s.requires, minus m p s.requires) (second m p s.requires)

returns-then-m-eq0 : tie.Need-returns-then-m-eq0
returns-then-m-eq0 c = rw c.if-m-eq0.true

returns-else-m-eq0 : tie.Need-returns-else-m-eq0
returns-else-m-eq0 c =
    let s = c.before in
    let m = s.args.m in
    let p = positive c in
    simp (whole m p s.requires, to_z-of_z, first m p s.requires, minus m p s.requires, second m p s.requires)

pub negative_spec : {M : Type 1} → statement M
negative_spec = tie.close (tie.spec overflow_sub-result overflow_cast-result overflow_sub-result-else-m-eq0 overflow_sub-result-else-m-eq0-2 returns-then-m-eq0 returns-else-m-eq0)
