-- The places of a good block are 64, and in range: the difference at place 0, levels elsewhere. Assumes nothing.
use mathlib.Core.Bool.{Bool, cond, false, true}
use mathlib.Core.List.{List, [], ◌∷◌}
use Rattle.std.specs.Prelude.{Option, None, Some}
use mathlib.Core.Path.{◌≡◌, refl, subst⁻¹, ◌∙◌}
use Prim.Native.Nat.{ℕ, suc, zero, ◌+◌, ◌-◌, ◌<◌, ◌^◌, ◌≤◌}
use native.Mathlib.Omega.{arith}
use lib.Dec.{eqb, leb}
use lib.IntN.{nat_abs, pos, ◌*ℤ◌, ◌+ℤ◌, ◌-ℤ◌, ℤ}
use lib.ListN.{get_or, length, length-set, set}
use lib.Seq.{get_or-set_other, get_or-set_same}
use lib.Pow.{pow_mono}
use borrow.Author.Tests.{leb-false, leb-true}
use Rattle.codes.specs.declared.dc_size.DcComponent.{DcComponent}
use Rattle.codes.specs.declared.tcoef_tables.TcoefTable.{TcoefTable}
use Rattle.codes.specs.declared.tcoef_tables.TcoefTable.TheVariants.{Intra}
use Rattle.numbers.proofs.Every.{every_at}
use Rattle.numbers.proofs.Integers.{diff_is, halves}
use Rattle.numbers.proofs.Tests.{T_true}
use Rattle.sentences.specs.Compose.{GoodOpt}
use Rattle.sentences.specs.Macroblock.{GoodBlock, Parts, Place}
use Rattle.block_reader.specs.Reading.{list_places, qfs_of, with_dc}
use Rattle.dc_parts.proofs.DcLaws.{size_is}
use Rattle.texture.proofs.LoopLaws.{small}
use Rattle.dc_parts.specs.Dc.{Dc, GoodDc, dc, difference_of, differential_of, size_at}
use Rattle.events.specs.Event.{level_of, run_of}
use Rattle.texture.specs.Events.{Events, GoodEvents, GoodList, final, first_place, more}
use Rattle.texture.specs.Places.{placed, zeros}

-- ---- the difference

differential_small : (n a : ℕ) → n ≤ 12 → a < 2 ^ n → nat_abs (differential_of n a) ≤ 4095
differential_small n a l h = go (eqb n 0) (leb (2 ^ (n - 1)) a) refl refl
  where
    top : 2 ^ n ≤ 4096
    top = pow_mono {i = n} {j = 12} l

    half : 2 ^ (n - 1) ≤ 2048
    half = pow_mono {i = n - 1} {j = 11} (omega arith)

    go : (s t : Bool) → eqb n 0 ≡ s → leb (2 ^ (n - 1)) a ≡ t
        → nat_abs (cond s (pos 0) (cond t (pos a) (pos a +ℤ pos 1 -ℤ pos 2 *ℤ pos (2 ^ (n - 1))))) ≤ 4095
    go true t e f = omega arith
    go false true e f = let k = top in omega arith
    go false false e f =
        let m = leb-false (2 ^ (n - 1)) a f in
        let k = half in
        let z = pos a +ℤ pos 1 -ℤ pos 2 *ℤ pos (2 ^ (n - 1)) in
        omega (arith, halves z, diff_is (pos a +ℤ pos 1) (pos 2 *ℤ pos (2 ^ (n - 1))))

pub difference_small : (c : DcComponent) (x : Dc) → GoodDc c x → nat_abs (difference_of c x) ≤ 4095
unfolding GoodDc difference_of
difference_small c (dc i a) g = differential_small (size_at c i) a (let e = size_is c i g.0 in let l = g.0 in omega arith) g.1

-- ---- the levels

abbrev Low : List ℤ → Type 0
Low xs = (k : ℕ) → nat_abs (get_or xs k (pos 0)) ≤ 2047

set-low : (xs : List ℤ) (i : ℕ) (v : ℤ) → nat_abs v ≤ 2047 → Low xs → Low (set xs i v)
set-low [] i v h l k = l k
set-low (x ∷ xs) zero v h l zero = h
set-low (x ∷ xs) zero v h l (suc k) = l (suc k)
set-low (x ∷ xs) (suc i) v h l zero = l zero
set-low (x ∷ xs) (suc i) v h l (suc k) = set-low xs i v h (λ j. l (suc j)) k

placed-low : (rev : Bool) (t : TcoefTable) (place : ℕ) (xs : List ℤ) (es : Events) → GoodEvents rev t es → Low xs → Low (placed t place xs es)
unfolding GoodEvents placed
placed-low rev t place xs (final e) g l = set-low xs (place + run_of t e) (level_of t e) (small rev t e g.0).level-le l
placed-low rev t place xs (more e es) g l =
    placed-low rev t (place + run_of t e + 1) (set xs (place + run_of t e) (level_of t e)) es g.2 (set-low xs (place + run_of t e) (level_of t e) (small rev t e g.0).level-le l)

placed-long : (t : TcoefTable) (place : ℕ) (xs : List ℤ) (es : Events) → length (placed t place xs es) ≡ length xs
unfolding placed
placed-long t place xs (final e) = length-set xs (place + run_of t e) (level_of t e)
placed-long t place xs (more e es) =
    placed-long t (place + run_of t e + 1) (set xs (place + run_of t e) (level_of t e)) es ∙ length-set xs (place + run_of t e) (level_of t e)

zeros-low : Low zeros
zeros-low k = leb-true _ 2047 (T_true _ (every_at (λ (z : ℤ). leb (nat_abs z) 2047) (pos 0) zeros tt tt k))

-- ---- the places of a block

module _ (rev dc_coded : Bool) where
  pub record Levels (xs : List ℤ) : Type 0 where
    pub low : Low xs
    pub long : length xs ≡ 64

  list-levels : (coded : Bool) (l : Option Events) → GoodOpt coded (GoodList rev Intra (first_place dc_coded)) l → Levels (list_places dc_coded l)
  list-levels coded None g = record { low = zeros-low; long = refl }
  list-levels true (Some es) g = record { low = placed-low rev Intra (first_place dc_coded) zeros es g.0 zeros-low; long = placed-long Intra (first_place dc_coded) zeros es }
  list-levels false (Some es) g = absurd g

  good-dc : (c : DcComponent) (v : Dc) → (t : Bool) → GoodOpt t (GoodDc c) (Some v) → GoodDc c v
  good-dc c v true g = g
  good-dc c v false g = absurd g

  -- a difference and levels, 64 in all
  pub record InRange (xs : List ℤ) : Type 0 where
    pub first : nat_abs (get_or xs 0 (pos 0)) ≤ 4095
    pub later : (k : ℕ) → 1 ≤ k → nat_abs (get_or xs k (pos 0)) ≤ 2047
    pub long : length xs ≡ 64

  with_dc_lem : (c : DcComponent) (x : Option Dc) (xs : List ℤ) → GoodOpt dc_coded (GoodDc c) x → Levels xs → InRange (with_dc c x xs)
  with_dc_lem c None xs g l = record { first = let h = l.low 0 in omega arith; later = λ k a. l.low k; long = l.long }
  with_dc_lem c (Some v) xs g l =
      let n : 0 < length xs = let e = l.long in omega arith in
      record {
        first = subst⁻¹ (λ (z : ℤ). nat_abs z ≤ 4095) (get_or-set_same xs 0 (difference_of c v) (pos 0) n) (difference_small c v (good-dc c v dc_coded g));
        later = λ k a. subst⁻¹ (λ (z : ℤ). nat_abs z ≤ 2047) (get_or-set_other xs 0 k (difference_of c v) (pos 0) (λ e. omega arith)) (l.low k);
        long = length-set xs 0 (difference_of c v) ∙ l.long;
      }

  pub good-places : (s : Place) (p : Parts) → GoodBlock dc_coded rev s p → InRange (qfs_of s.0 dc_coded p)
  good-places s p g = with_dc_lem s.0 p.0 (list_places dc_coded p.1) g.0 (list-levels s.1 p.1 g.1)
