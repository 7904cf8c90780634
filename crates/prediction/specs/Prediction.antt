-- Intra prediction (7.4.3): the direction, Table 7-1, and the prediction of each place as a value by itself. Definitions only.
use Rattle.std.specs.Prelude.{Bool, false, cond, ℕ, zero, suc, ◌+◌, ◌-◌, ◌*◌, ◌/◌, ◌^◌, min, leb, ltb, get_or, replicate, ℤ, pos, nat_abs, ◌-ℤ◌, ◌*ℤ◌}
use Rattle.numbers.specs.Rounding.{div_away}
use Rattle.codes.specs.declared.dc_size.DcComponent.{DcComponent}
use Rattle.codes.specs.declared.dc_size.DcComponent.TheVariants.{Luminance, Chrominance}
use Rattle.scan.specs.declared.DcPredictionDirection.{DcPredictionDirection}
use Rattle.scan.specs.declared.DcPredictionDirection.TheVariants.{FromLeft, FromAbove}
use Rattle.prediction.specs.declared.predictor.BlockPredictors.{BlockPredictors}

-- Table 7-1, by the quantiser scale
abbrev pub scaler_luma : ℕ → ℕ
scaler_luma q = cond (leb q 4) 8 (cond (leb q 8) (2 * q) (cond (leb q 24) (q + 8) (2 * q - 16)))

abbrev pub scaler_chroma : ℕ → ℕ
scaler_chroma q = cond (leb q 4) 8 (cond (leb q 24) ((q + 13) / 2) (q - 6))

abbrev pub dc_scaler : DcComponent → ℕ → ℕ
dc_scaler Luminance q = scaler_luma q
dc_scaler Chrominance q = scaler_chroma q

-- 7.4.3.1: from C, above, where |FA - FB| < |FB - FC|, else from A, left
abbrev pub direction_of : ℤ → ℤ → ℤ → DcPredictionDirection
direction_of fa fb fc = cond (ltb (nat_abs (fa -ℤ fb)) (nat_abs (fb -ℤ fc))) FromAbove FromLeft

-- the DC of a neighbour that is missing: 2 ^ (bits per pixel + 2)
abbrev pub default_dc : ℕ → ℤ
default_dc depth = pos (2 ^ (depth + 2))

-- all three neighbours missing. A depth above 12, which every stage refuses, is taken as 12.
abbrev pub outside_of : ℕ → ℕ → BlockPredictors
outside_of depth q =
    record {
      fa_dc = default_dc (min depth 12);
      fb_dc = default_dc (min depth 12);
      fc_dc = default_dc (min depth 12);
      qp_a = q;
      qp_c = q;
      a_has_column = false;
      a_first_column = replicate 7 (pos 0);
      c_has_row = false;
      c_first_row = replicate 7 (pos 0);
    }

-- 7.4.3.2: the prediction of the DC level, from the side that the direction names
abbrev pub dc_prediction : DcPredictionDirection → ℤ → ℤ → ℕ → ℤ
dc_prediction FromLeft fa fc scaler = div_away fa scaler
dc_prediction FromAbove fa fc scaler = div_away fc scaler

-- 7.4.3.3: the prediction of an AC level from a neighbour's, brought from its quantiser to the present one
abbrev pub ac_prediction : ℤ → ℕ → ℕ → ℤ
ac_prediction qf qp q = div_away (qf *ℤ pos qp) q

-- the direction of a block
abbrev pub direction_by : BlockPredictors → DcPredictionDirection
direction_by p = direction_of p.fa_dc p.fb_dc p.fc_dc

-- of the first column, from A; of the first row, from C; a missing neighbour has no AC values
abbrev pub column_prediction : BlockPredictors → ℕ → DcPredictionDirection → ℕ → ℤ
column_prediction p q FromLeft v = cond p.a_has_column (ac_prediction (get_or p.a_first_column v (pos 0)) p.qp_a q) (pos 0)
column_prediction p q FromAbove v = pos 0

abbrev pub row_prediction : BlockPredictors → ℕ → DcPredictionDirection → ℕ → ℤ
row_prediction p q FromLeft u = pos 0
row_prediction p q FromAbove u = cond p.c_has_row (ac_prediction (get_or p.c_first_row u (pos 0)) p.qp_c q) (pos 0)

-- the prediction of the level at row v, column u: the DC always, the first column or row where ac_pred_flag is set, elsewhere 0
unfoldable pub predicted : DcComponent → ℕ → Bool → BlockPredictors → ℕ → ℕ → ℤ
predicted c q ac_pred p zero zero = dc_prediction (direction_by p) p.fa_dc p.fc_dc (dc_scaler c q)
predicted c q ac_pred p (suc v) zero = cond ac_pred (column_prediction p q (direction_by p) v) (pos 0)
predicted c q ac_pred p zero (suc u) = cond ac_pred (row_prediction p q (direction_by p) u) (pos 0)
predicted c q ac_pred p (suc v) (suc u) = pos 0
