-- What a block needs of that which it takes, from its DCs and the side that they choose. Assumes nothing.
use mathlib.Core.Bool.{Bool, true, false}
use mathlib.Core.List.{List}
use Rattle.std.specs.Prelude.{Option, None, Some}
use mathlib.Core.Path.{◌≡◌, refl, ap, sym, ◌∙◌}
use Prim.Native.Nat.{ℕ, ◌+◌, ◌*◌, ◌≤◌}
use native.Mathlib.Omega.{arith}
use lib.IntN.{ℤ, pos}
use lib.ListN.{get_or, replicate}
use Rattle.coefficients.specs.Needed.{dcs_only, numbers_of, with_side}
use Rattle.scan.specs.declared.DcPredictionDirection.TheVariants.{FromAbove, FromLeft}
use Rattle.places.specs.Places.{a_source, a_block, b_source, b_block, c_source, c_block}
use Rattle.record.specs.Record.{quantiser_of, record_at, seven_from}
use Rattle.record.proofs.RecordLaws.{record_at_lem, record_seven}
use Rattle.neighbours.specs.Neighbours.{Around, found, from, predictors, side_of}
use Rattle.needed.specs.Sides.{DcsAre, numbers_at}

-- ---- a record's quantiser and seven of its values

pub values-read : (s : List ℤ) (start at : ℕ) (a b c : ℤ) {qp : ℕ} {values : List ℤ}
    → at ≤ 84
    → qp ≡ quantiser_of (get_or s (start + 90) (pos 0))
    → values ≡ seven_from s (start + at)
    → numbers_of a b c qp values ≡ numbers_of a b c (quantiser_of (get_or (record_at s start) 90 (pos 0))) (seven_from (record_at s start) at)
values-read s start at a b c h e f =
    let e' = e ∙ ap quantiser_of (sym (record_at_lem s start 90 (omega arith))) in
    let f' = f ∙ sym (record_seven s start at (omega arith)) in
    λ j. numbers_of a b c (e' j) (f' j)

-- a record that is there, and one that is missing
module _ (q at : ℕ) (a b c : ℤ) (r : List ℤ) {has : Bool} where
  pub there : has ≡ true → numbers_at q (Some r) at a b c ≡ numbers_at q (found has r) at a b c
  there e = rw e

  pub not_there : has ≡ false → numbers_of a b c q (replicate 7 (pos 0)) ≡ numbers_at q (found has r) at a b c
  not_there e = rw e

-- ---- the DCs, and the values of one side

module _ (depth q : ℕ) (ar : Around) (own : List ℤ) (i : ℕ) {a b c : ℤ} where
  pub dcs-taken : a ≡ (side_of depth q ar own (a_source i) (a_block i)).dc
      → b ≡ (side_of depth q ar own (b_source i) (b_block i)).dc
      → c ≡ (side_of depth q ar own (c_source i) (c_block i)).dc
      → DcsAre (predictors depth q ar own i) a b c
  unfolding predictors
  dcs-taken e f g = (e, f, g)

  pub dcs-are : DcsAre (predictors depth q ar own i) a b c → numbers_of a b c q (replicate 7 (pos 0)) ≡ dcs_only q (predictors depth q ar own i)
  dcs-are e = λ j. numbers_of (e.0 j) (e.1 j) (e.2 j) q (replicate 7 (pos 0))

  pub left_is : DcsAre (predictors depth q ar own i) a b c → numbers_at q (from ar own (a_source i)) (15 * a_block i + 8) a b c ≡ with_side q (predictors depth q ar own i) FromLeft
  unfolding predictors
  left_is e = (λ j. numbers_at q (from ar own (a_source i)) (15 * a_block i + 8) (e.0 j) (e.1 j) (e.2 j)) ∙ go (from ar own (a_source i)) refl
    where
      go : (r : Option (List ℤ)) → from ar own (a_source i) ≡ r
          → numbers_at q (from ar own (a_source i)) (15 * a_block i + 8) (predictors depth q ar own i).fa_dc (predictors depth q ar own i).fb_dc (predictors depth q ar own i).fc_dc ≡ with_side q (predictors depth q ar own i) FromLeft
      go None h = rw h
      go (Some r) h = rw h

  pub above-is : DcsAre (predictors depth q ar own i) a b c → numbers_at q (from ar own (c_source i)) (15 * c_block i + 1) a b c ≡ with_side q (predictors depth q ar own i) FromAbove
  unfolding predictors
  above-is e = (λ j. numbers_at q (from ar own (c_source i)) (15 * c_block i + 1) (e.0 j) (e.1 j) (e.2 j)) ∙ go (from ar own (c_source i)) refl
    where
      go : (r : Option (List ℤ)) → from ar own (c_source i) ≡ r
          → numbers_at q (from ar own (c_source i)) (15 * c_block i + 1) (predictors depth q ar own i).fa_dc (predictors depth q ar own i).fb_dc (predictors depth q ar own i).fc_dc ≡ with_side q (predictors depth q ar own i) FromAbove
      go None h = rw h
      go (Some r) h = rw h
