-- Inverse quantisation of one coefficient (7.4.4.1 to 7.4.4.4): the DC of an intra block, both methods, the limits, and what is refused. Definitions only.
use Rattle.std.specs.Prelude.{Bool, cond, not, ◌&&◌, ℕ, suc, zero, ◌+◌, ◌-◌, ◌*◌, ◌%◌, eqb, ℤ, pos, negsuc, neg_ℤ, nat_abs, ◌+ℤ◌, ◌*ℤ◌}
use Rattle.std.specs.Int.Signed.{lt_z, quot_z}
use Rattle.numbers.specs.Limit.{clamp_z}
use Rattle.codes.specs.declared.dc_size.DcComponent.{DcComponent}
use Rattle.ranges.specs.Range.{depth_fine, highest, lowest, quantiser_fine}
use Rattle.prediction.specs.Prediction.{dc_scaler}
use Rattle.dequantise.specs.declared.context.InverseQuantContext.{InverseQuantContext}

-- 7.4.4.1.1: the DC of an intra block; its scaler is 8 with a short video header
abbrev pub intra_dc : ℤ → DcComponent → ℕ → Bool → ℤ
intra_dc qf c q short = qf *ℤ pos (cond short 8 (dc_scaler c q))

-- 7.4.4.1.2: method 1, cut toward zero; intra
abbrev pub method1_intra : ℤ → ℕ → ℕ → ℤ
method1_intra qf w q = quot_z (qf *ℤ pos w *ℤ pos q *ℤ pos 2) (pos 16)

-- and not intra, with -1 for a negative QF and 1 for any other
abbrev pub sign_of : ℤ → ℤ
sign_of z = cond (lt_z z (pos 0)) (negsuc 0) (pos 1)

abbrev pub method1_inter : ℤ → ℕ → ℕ → ℤ
method1_inter qf w q = quot_z ((pos 2 *ℤ qf +ℤ sign_of qf) *ℤ pos w *ℤ pos q) (pos 16)

-- either is 0 where QF is
abbrev pub method1 : Bool → ℤ → ℕ → ℕ → ℤ
method1 intra qf w q = cond (eqb (nat_abs qf) 0) (pos 0) (cond intra (method1_intra qf w q) (method1_inter qf w q))

-- 7.4.4.2.1: method 2, of the magnitude: (2 |QF| + 1) q, less 1 for an even q; then QF's sign, and 0 at 0
abbrev pub magnitude2 : ℕ → ℕ → ℕ
magnitude2 a q = cond (eqb (q % 2) 1) ((2 * a + 1) * q) ((2 * a + 1) * q - 1)

abbrev pub method2 : ℤ → ℕ → ℤ
method2 (pos a) q = cond (eqb a 0) (pos 0) (pos (magnitude2 a q))
method2 (negsuc a) q = neg_ℤ (pos (magnitude2 (suc a) q))

-- 7.4.4.4: limited to -2 ^ (bits per pixel + 3) .. 2 ^ (bits per pixel + 3) - 1
abbrev pub limited_f : ℕ → ℤ → ℤ
limited_f depth z = clamp_z z (lowest (depth + 3)) (highest (depth + 3))

-- the sign of a level, and 0 at 0
abbrev pub signum : ℤ → ℤ
signum (pos zero) = pos 0
signum (pos (suc n)) = pos 1
signum (negsuc n) = negsuc 0

-- ---- what is refused

abbrev pub non_zero : ℕ → Bool
non_zero n = not (eqb n 0)

abbrev pub context_fine : InverseQuantContext → Bool
context_fine ctx = quantiser_fine ctx.quantiser_scale && depth_fine ctx.bits_per_pixel
