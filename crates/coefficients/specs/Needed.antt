-- What the levels of a block need of its predictors, as eleven numbers: the DCs of A, B and C, then a quantiser and seven values, those of the side that the DCs choose. Definitions only.
use Rattle.std.specs.Prelude.{Bool, cond, not, true, ◌&&◌, List, ◌∷◌, ℕ, ◌+◌, eqb, ℤ, nat_abs, pos, get_or, replicate}
use Rattle.numbers.specs.Every.{every}
use Rattle.numbers.specs.Grid.{build}
use Rattle.ranges.specs.Range.{dc_fine, quantiser_fine}
use Rattle.prediction.specs.Prediction.{direction_by}
use Rattle.prediction.specs.declared.predictor.BlockPredictors.{BlockPredictors}
use Rattle.scan.specs.declared.DcPredictionDirection.{DcPredictionDirection}
use Rattle.scan.specs.declared.DcPredictionDirection.TheVariants.{FromLeft, FromAbove}

-- a quantiser as a number; one that 13 refuses is told as 0, which it refuses too
abbrev pub told : ℕ → ℤ
told q = cond (quantiser_fine q) (pos q) (pos 0)

-- the eleven numbers
abbrev pub numbers_of : ℤ → ℤ → ℤ → ℕ → List ℤ → List ℤ
numbers_of fa fb fc qp values = fa ∷ fb ∷ fc ∷ told qp ∷ build 7 (λ (k : ℕ). get_or values k (pos 0))

-- the seven values among them
abbrev pub seven_in : List ℤ → List ℤ
seven_in ns = build 7 (λ (k : ℕ). get_or ns (4 + k) (pos 0))

-- eleven numbers as predictors: either side has the quantiser and the values
abbrev pub numbered : List ℤ → BlockPredictors
numbered ns =
    record {
      fa_dc = get_or ns 0 (pos 0);
      fb_dc = get_or ns 1 (pos 0);
      fc_dc = get_or ns 2 (pos 0);
      qp_a = nat_abs (get_or ns 3 (pos 0));
      qp_c = nat_abs (get_or ns 3 (pos 0));
      a_has_column = true;
      a_first_column = seven_in ns;
      c_has_row = true;
      c_first_row = seven_in ns;
    }

-- some of the values is not 0
abbrev pub some_value : List ℤ → Bool
some_value xs = not (every (λ (z : ℤ). eqb (nat_abs z) 0) xs)

-- the DCs, under the present quantiser, with no values
abbrev pub dcs_only : ℕ → BlockPredictors → List ℤ
dcs_only q p = numbers_of p.fa_dc p.fb_dc p.fc_dc q (replicate 7 (pos 0))

-- the DCs with the quantiser and the values of one side, where it is there
abbrev pub with_side : ℕ → BlockPredictors → DcPredictionDirection → List ℤ
with_side q p FromLeft = cond p.a_has_column (numbers_of p.fa_dc p.fb_dc p.fc_dc p.qp_a p.a_first_column) (dcs_only q p)
with_side q p FromAbove = cond p.c_has_row (numbers_of p.fa_dc p.fb_dc p.fc_dc p.qp_c p.c_first_row) (dcs_only q p)

-- what is needed under a quantiser; DCs that 13 refuses choose no side
unfoldable pub needed_of : ℕ → Bool → BlockPredictors → List ℤ
needed_of q ac_pred p =
    cond (ac_pred && (dc_fine p.fa_dc && (dc_fine p.fb_dc && dc_fine p.fc_dc))) (with_side q p (direction_by p)) (dcs_only q p)
