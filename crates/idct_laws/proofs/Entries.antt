-- Each cosine and each factor of the table, as the f64 that the program has, is near its nested root, with its sign. Assumes nothing.
use mathlib.Core.Bool.{Bool, true, false, cond}
use Prim.Native.Nat.{ℕ, ◌^◌, ◌<◌}
use lib.Dec.{T, eqb, lit<}
use lib.IntN.{pos}
use Rattle.numbers.proofs.Every.{every-build}
use Rattle.numbers.specs.Every.{every}
use Rattle.numbers.specs.Grid.{build}
use Rattle.f64_error.proofs.Approx.{Const}
use Rattle.cosines.proofs.Tables.{c_const, cos_const}
use Rattle.cosines.specs.Cosines.{turn, by_turn_z, cos_f, cos_z, c_f, c_z}
use Rattle.idct_laws.specs.Moved.{TrueConstants}
use Rattle.idct_laws.specs.Roots.{at_most, at_least, double_cosine, near_cosine, factor_turn}

-- one test over the 64 entries, carried to each
abbrev entries_near : ℕ → Bool
entries_near e = every (λ (u : ℕ). every (λ (x : ℕ). near_cosine e (cos_z u x) (2 ^ 55) (turn u x)) (build 8 (λ (x : ℕ). x))) (build 8 (λ (u : ℕ). u))

entry_near : (e : ℕ) → T (entries_near e) → (u x : ℕ) → u < 8 → x < 8 → T (near_cosine e (cos_z u x) (2 ^ 55) (turn u x))
entry_near e t u x i j = every-build _ 8 (λ (x : ℕ). x) (every-build _ 8 (λ (u : ℕ). u) t u i) x j

factor-near : (e : ℕ) → T (near_cosine e (c_z 0) (2 ^ 55) 4) → T (near_cosine e (c_z 1) (2 ^ 55) 0) → (u : ℕ) → T (near_cosine e (c_z u) (2 ^ 55) (factor_turn u))
unfolding c_z
factor-near e s t u = go (eqb u 0)
  where
    go : (b : Bool) → T (near_cosine e (cond b (pos 25476206690103092) (pos 36028797018963968)) (2 ^ 55) (cond b 4 0))
    go true = s
    go false = t

-- within 1/2 ^ 47, and the f64 is that fraction
pub entry_true : (u x : ℕ) → u < 8 → x < 8 → Const (cos_f u x) (2 ^ 55) (cos_z u x) × T (near_cosine (2 ^ 8) (cos_z u x) (2 ^ 55) (turn u x))
unfolding build at_most at_least double_cosine by_turn_z
entry_true u x i j = (cos_const u x, entry_near (2 ^ 8) tt u x i j)

pub factor-true : (u : ℕ) → Const (c_f u) (2 ^ 55) (c_z u) × T (near_cosine (2 ^ 8) (c_z u) (2 ^ 55) (factor_turn u))
unfolding at_most at_least double_cosine c_z
factor-true u = (c_const u, factor-near (2 ^ 8) tt tt u)

-- as near as the f64s are: 1/2 ^ 54
pub table-true : TrueConstants 2 (2 ^ 55) c_z cos_z
unfolding build at_most at_least double_cosine by_turn_z c_z
table-true = record { some = lit< tt; factor = λ u i. factor-near 2 tt tt u; cosine = entry_near 2 tt }
