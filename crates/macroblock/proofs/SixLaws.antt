-- Six blocks: their values lie within the depth's limits, their samples are those of each and stand where they are written in turn, and what lies from a row's end on is 0. Assumes nothing.
use mathlib.Core.Bool.{true}
use mathlib.Core.List.{List, [], ◌∷◌}
use mathlib.Core.Logic.{⊎_elim}
use mathlib.Core.Path.{◌≡◌, ap, refl, subst⁻¹, sym, ◌∙◌}
use Prim.Native.Nat.{ℕ, suc, zero, ◌+◌, ◌<◌, ◌≤◌}
use native.Mathlib.Numerals.{add-one}
use native.Mathlib.Omega.{arith}
use lib.IntN.{ℤ}
use lib.ListN.{get_or, length, get_or-eq_default}
use Rattle.numbers.proofs.Fill.{build-eq, get_or-build, lt-or-le}
use Rattle.codes.specs.Component.{component_at}
use Rattle.coefficients.proofs.NeededLaws.{needed_levels}
use Rattle.scan_rows.proofs.UpToLaws.{up_to_all}
use Rattle.coefficients.specs.Level.{predictors_fine}
use Rattle.coefficients.specs.Needed.{needed_of, numbered}
use Rattle.scan_rows.specs.UpTo.{up_to}
use Rattle.prediction.specs.declared.predictor.BlockPredictors.{BlockPredictors}
use Rattle.idct.specs.Limits.{values_fine}
use Rattle.block.proofs.AnswerLaws.{values-fine}
use Rattle.block.specs.Rebuilt.{values_here}
use Rattle.assembly.specs.Values.{samples_of, values_of}
use Rattle.assembly.specs.declared.context.MacroblockTextureContext.{MacroblockTextureContext}
use Rattle.samples.proofs.TurnLaws.{turn_all, turn_by}
use Rattle.samples.specs.Samples.{block_after, blocks_after, samples_after}
use Rattle.window_reader.proofs.EndLaws.{beyond_end}
use Rattle.window_reader.specs.Ends.{end_of, ends_of}
use Rattle.macroblock.specs.Six.{block_at, samples_of_six, values_of_six}

module _ (x : MacroblockTextureContext) (p : BlockPredictors) (w : List (List ℕ)) (rows : List (List ℤ)) where
  pub values_six_fine : (i : ℕ) → i < 6 → values_fine x.bits_per_pixel (block_at (values_of_six x p w rows) i) ≡ true
  unfolding values_of_six
  values_six_fine i l =
      subst⁻¹ (λ (f : List (List ℤ)). values_fine x.bits_per_pixel f ≡ true) (get_or-build 6 _ i [] l) (values-fine (component_at i) x w _)

  -- block i of the samples, by its places
  pub samples_six_at : (i : ℕ) → i < 6 → samples_of x (values_here (component_at i) x p w (get_or rows i [])) ≡ samples_of x (block_at (values_of_six x p w rows) i)
  unfolding values_of_six
  samples_six_at i l = ap (samples_of x) (sym (get_or-build 6 _ i [] l))

-- with what is needed of the predictors the values are the same
pub needed_six : (x : MacroblockTextureContext) (p : BlockPredictors) (w : List (List ℕ)) (rows : List (List ℤ)) → predictors_fine p ≡ true
    → values_of_six x (numbered (needed_of x.quantiser_scale x.ac_pred_flag p)) w rows ≡ values_of_six x p w rows
unfolding values_of_six
needed_six x p w rows e =
    build-eq 6 _ _
    (λ i l. ap (values_of (component_at i) x w) (needed_levels (component_at i) x.quantiser_scale x.ac_pred_flag x.alternate_vertical_scan p (get_or rows i []) e))

pub samples_at : (x : MacroblockTextureContext) (fs : List (List (List ℤ))) (i : ℕ) → i < 6 → block_at (samples_of_six x fs) i ≡ samples_of x (block_at fs i)
unfolding samples_of_six
samples_at x fs i l = get_or-build 6 _ i [] l

-- ---- six blocks that are written in turn

module _ (x : MacroblockTextureContext) (p : BlockPredictors) (w : List (List ℕ)) (rows : List (List ℤ)) (i : ℕ) (s t : List ℤ) (room : 384 ≤ length s) (so_far : t ≡ blocks_after i (samples_of_six x (values_of_six x p w rows)) s) where
  pub one_more_lem : i < 6 → block_after i (samples_of x (values_here (component_at i) x p w (get_or rows i []))) t ≡ blocks_after (i + 1) (samples_of_six x (values_of_six x p w rows)) s
  one_more_lem l =
      let fs = values_of_six x p w rows in
      turn_by i (samples_of_six x fs) s _ t l room (samples_six_at x p w rows i l ∙ sym (samples_at x fs i l)) so_far ∙ ap (λ (k : ℕ). blocks_after k (samples_of_six x fs) s) (sym (add-one i))

  pub all_six : i ≡ 6 → t ≡ samples_after (samples_of_six x (values_of_six x p w rows)) s
  all_six e = let b = samples_of_six x (values_of_six x p w rows) in so_far ∙ ap (λ (k : ℕ). blocks_after k b s) e ∙ turn_all b s room

-- ---- the ends of rows

-- a row of 64 is one of the rows
row_in_lem : (rows : List (List ℤ)) (i : ℕ) → length (get_or rows i []) ≡ 64 → i < length rows
row_in_lem rows i n = ⊎_elim (λ (l : i < length rows). l) (λ (l : length rows ≤ i). absurd (omega (arith, n, ap length (get_or-eq_default rows [] {n = i} l)))) (lt-or-le i (length rows))

-- the end of row i
end_at : (rows : List (List ℤ)) (i : ℕ) → i < length rows → get_or (ends_of rows) i 0 ≡ end_of (get_or rows i [])
end_at [] i l = absurd (omega arith)
end_at (r ∷ rows) zero l = refl
end_at (r ∷ rows) (suc i) l = end_at rows i (omega arith)

-- what lies from a row's end on is 0
pub all_below_end : (rows : List (List ℤ)) (ends : List ℕ) (i : ℕ) → ends ≡ ends_of rows → length (get_or rows i []) ≡ 64 → up_to (get_or ends i 0) (get_or rows i []) ≡ get_or rows i []
all_below_end rows ends i e n =
    ap (λ (k : ℕ). up_to k (get_or rows i [])) (ap (λ (ns : List ℕ). get_or ns i 0) e ∙ end_at rows i (row_in_lem rows i n)) ∙ up_to_all (end_of (get_or rows i [])) (get_or rows i []) n (beyond_end (get_or rows i []))
