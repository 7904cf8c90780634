-- What a block takes of A, B and C; and refusal 13. Definitions only.
use Rattle.std.specs.Prelude.{Bool, false, true, List, [], ◌∷◌, ℕ, drop, ℤ, Option, None, Some}
use Rattle.numbers.specs.Every.{every}
use Rattle.coefficients.specs.Level.{predictors_fine}
use Rattle.prediction.specs.declared.predictor.BlockPredictors.{BlockPredictors}
use Rattle.places.specs.Places.{a_source, a_block, b_source, b_block, c_source, c_block}
use Rattle.places.specs.declared.place.Place.{Place}
use Rattle.places.specs.declared.place.Source.{Source}
use Rattle.places.specs.declared.place.Source.TheVariants.{Own, Left, AboveLeft, Above}
use Rattle.record.specs.Record.{record_at, known_of, missing_of}
use Rattle.record.specs.declared.record.Side.{Side}

-- the records of the three macroblocks around the one that is due, where they are not missing
pub record Around : Type 0 where
  pub left : Option (List ℤ)
  pub above_left : Option (List ℤ)
  pub above : Option (List ℤ)

abbrev pub found : {A : Type 0} → Bool → A → Option A
found true a = Some a
found false a = None

-- the record of a source, with the macroblock's own so far
abbrev pub from : Around → List ℤ → Source → Option (List ℤ)
from ar own Own = Some own
from ar own Left = ar.left
from ar own AboveLeft = ar.above_left
from ar own Above = ar.above

abbrev pub sided : ℕ → ℕ → Option (List ℤ) → ℕ → Side
sided depth q None b = missing_of depth q
sided depth q (Some r) b = known_of r b

abbrev pub side_of : ℕ → ℕ → Around → List ℤ → Source → ℕ → Side
side_of depth q ar own source b = sided depth q (from ar own source) b

-- of A the DC, the quantiser and the column; of B the DC; of C the DC, the quantiser and the row
abbrev pub joined_by : Side → ℤ → Side → BlockPredictors
joined_by a b c =
    record {
      fa_dc = a.dc;
      fb_dc = b;
      fc_dc = c.dc;
      qp_a = a.qp;
      qp_c = c.qp;
      a_has_column = a.has;
      a_first_column = a.column;
      c_has_row = c.has;
      c_first_row = c.row;
    }

abbrev pub joined : Side → Side → Side → BlockPredictors
joined a b c = joined_by a b.dc c

-- what block i takes
unfoldable pub predictors : ℕ → ℕ → Around → List ℤ → ℕ → BlockPredictors
predictors depth q ar own i =
    joined (side_of depth q ar own (a_source i) (a_block i))
    (side_of depth q ar own (b_source i) (b_block i))
    (side_of depth q ar own (c_source i) (c_block i))

-- the three records, out of the store
abbrev pub around_by : Place → List ℤ → Around
around_by p s =
    record {
      left = found p.has_left (record_at s p.left);
      above_left = found p.has_above_left (record_at s p.above_left);
      above = found p.has_above (record_at s p.above);
    }

-- the same, but all that stands in the store from each place on: of a block above 5 there is no record
abbrev pub around_from : Place → List ℤ → Around
around_from p s =
    record {
      left = found p.has_left (drop p.left s);
      above_left = found p.has_above_left (drop p.above_left s);
      above = found p.has_above (drop p.above s);
    }

-- refusal 13: what the six blocks take is in range, AC values whether or not AC prediction is set; the macroblock's own record is a new one, which is
abbrev pub six_blocks : List ℕ
six_blocks = 0 ∷ 1 ∷ 2 ∷ 3 ∷ 4 ∷ 5 ∷ []

unfoldable pub neighbours_fine : ℕ → ℕ → Around → List ℤ → Bool
neighbours_fine depth q ar own = every (λ (i : ℕ). predictors_fine (predictors depth q ar own i)) six_blocks
