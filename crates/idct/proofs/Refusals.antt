-- Which values are refused: what the tests tell of sizes, what is due, and what a caller shows of values that are taken. Assumes nothing.
use mathlib.Core.Bool.{Bool, true, false, ◌&&◌}
use mathlib.Core.List.{List, [], ◌∷◌}
use mathlib.Core.Path.{◌≡◌, refl, sym, ap, ◌∙◌}
use Prim.Native.Nat.{ℕ, zero, suc, ◌+◌, ◌^◌, ◌≤◌, ◌<◌}
use native.Mathlib.Nat.{le_trans}
use native.Mathlib.Omega.{arith}
use lib.Dec.{T, lit≤}
use lib.Ieee.Bits.{is_true}
use lib.IntN.{ℤ, pos, nat_abs}
use lib.ListN.{get_or}
use lib.Pow.{pow_mono}
use lib.Signed.{le_z, ◌≤ℤ◌}
use mir.Facts.{and_yes}
use Rattle.numbers.proofs.Every.{every_at}
use Rattle.numbers.specs.Every.{every}
use Rattle.numbers.proofs.Integers.{<ℤ-≤ℤ, diff_is, le_in, le_out, le-true, zarith}
use Rattle.numbers.proofs.Limits.{clamp_high, clamp_low}
use Rattle.numbers.proofs.Magnitudes.{abs-within}
use Rattle.numbers.specs.Grid.{block, build, cell}
use Rattle.numbers.specs.Limit.{clamp_z}
use Rattle.numbers.specs.Outcome.{Outcome, accepted, checked}
use Rattle.ranges.proofs.RangeLaws.{depth_range, highest-not-negative, lowest-highest, lowest-negative, within_of}
use Rattle.ranges.specs.Range.{depth_fine, highest, lowest}
use Rattle.rounding.specs.declared.HalfIntegerRounding.{HalfIntegerRounding}
use Rattle.numbers.proofs.Tests.{true-T}
use Rattle.exact_transform.specs.Exact.{Modest, Near, exact}
use Rattle.exact_transform.specs.Transform.{whole}
use Rattle.exact_transform.proofs.Bounds.{whole-near}
use Rattle.idct.specs.Limits.{idct_outcome, in_bounds, values_fine}
use Rattle.std.specs.Prelude.{Ok, Result, ⊤}
use Rattle.idct.specs.declared.limits.IdctError.{IdctError}

-- ---- one value

pub zero-inside : (b : ℕ) → in_bounds b (pos 0) ≡ true
zero-inside b = within_of (lowest b) (highest b) (pos 0) (<ℤ-≤ℤ (lowest-negative b)) (highest-not-negative b)

size : (b : ℕ) (z : ℤ) → T (in_bounds b z) → nat_abs z ≤ 2 ^ b
size b z t =
    let s = and_yes (le_z (lowest b) z) (le_z z (highest b)) t in
    let p : lowest b ≤ℤ z = le-true (lowest b) z (is_true (le_z (lowest b) z) s.0) in
    let q : z ≤ℤ highest b = le-true z (highest b) (is_true (le_z z (highest b)) s.1) in
    abs-within z (2 ^ b) p (le_in (omega (zarith, le_out q, diff_is (pos (2 ^ b)) (pos 1))))

-- ---- a block

pub modest : (d : ℕ) (l : List (List ℤ)) → depth_fine d ≡ true → values_fine d l ≡ true → Modest l
modest d l h e v u i j =
    let p = in_bounds (d + 3) in
    let g : d + 3 ≤ 15 = omega (arith, (depth_range d h).1) in
    le_trans (size (d + 3) (cell l v u) (every_at p (pos 0) (get_or l v []) (true-T (p (pos 0)) (zero-inside (d + 3))) (every_at (every p) [] l tt (true-T (values_fine d l) e) v) u)) (le_trans (pow_mono g) (lit≤ tt))

-- ---- what is due

module _ (d : ℕ) (l : List (List ℤ)) where
  -- by the depth first, then by the values
  abbrev pub due : Outcome (Unit {0})
  due = checked ((depth_fine d, 12) ∷ (values_fine d l, 13) ∷ []) (accepted tt)

  pub transformed : depth_fine d ≡ true → values_fine d l ≡ true → idct_outcome (Ok tt) ≡ due
  transformed e g = simp (e, g)

-- ---- for callers: a block whose cells are within a depth's limits is taken

every-build : {A : Type 0} (p : A → Bool) (n : ℕ) (f : ℕ → A) → ((i : ℕ) → i < n → p (f i) ≡ true) → every p (build n f) ≡ true
unfolding build
every-build p zero f h = refl
every-build p (suc n) f h = ap (λ (b : Bool). b && every p (build n (λ (k : ℕ). f (suc k)))) (h 0 (omega arith)) ∙ every-build p n (λ (k : ℕ). f (suc k)) (λ (i : ℕ) (l : i < n). h (suc i) (omega arith))

pub values-taken : (d : ℕ) (f : ℕ → ℕ → ℤ) → ((v u : ℕ) → v < 8 → u < 8 → in_bounds (d + 3) (f v u) ≡ true) → values_fine d (block f) ≡ true
values-taken d f h =
    every-build (every (in_bounds (d + 3))) 8 (λ (v : ℕ). build 8 (f v))
    (λ (v : ℕ) (p : v < 8). every-build (in_bounds (d + 3)) 8 (f v) (λ (u : ℕ) (q : u < 8). h v u p q))

-- a limited value is within
pub limited-inside : (b : ℕ) (z : ℤ) → in_bounds b (clamp_z z (lowest b) (highest b)) ≡ true
limited-inside b z = within_of (lowest b) (highest b) (clamp_z z (lowest b) (highest b)) (clamp_low z (lowest b) (highest b) (lowest-highest b)) (clamp_high z (lowest b) (highest b) (lowest-highest b))

-- ---- what is taken stays near the exact transform

pub taken-near : (d : ℕ) (l : List (List ℤ)) → depth_fine d ≡ true → values_fine d l ≡ true → (m : HalfIntegerRounding) (y x : ℕ) → y < 8 → x < 8 → Near (whole m l y x) (exact l y x)
taken-near d l e g m y x p q = whole-near l (modest d l e g) y x p q m

-- what an answer is due to
fine-told : (d : ℕ) (l : List (List ℤ)) → idct_outcome (Ok tt) ≡ due d l → (depth_fine d ≡ true) × (values_fine d l ≡ true)
fine-told d l = go (depth_fine d) (values_fine d l)
  where
    go : (a b : Bool) → ◌≡◌ {A = Outcome (Unit {0})} (accepted tt) (checked ((a, 12) ∷ (b, 13) ∷ []) (accepted tt)) → (a ≡ true) × (b ≡ true)
    go true true e = (refl, refl)
    go true false e = let n : ◌≡◌ {A = ℕ} 0 1 = cc in absurd (omega arith)
    go false b e = let n : ◌≡◌ {A = ℕ} 0 1 = cc in absurd (omega arith)

pub answer-near : (d : ℕ) (l : List (List ℤ)) (m : HalfIntegerRounding) (r : Result ⊤ IdctError) → idct_outcome r ≡ due d l → r ≡ Ok tt → (y x : ℕ) → y < 8 → x < 8 → Near (whole m l y x) (exact l y x)
answer-near d l m r e t y x p q = let f = fine-told d l (sym (ap idct_outcome t) ∙ e) in taken-near d l f.0 f.1 m y x p q
