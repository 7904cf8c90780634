-- One block in its turn, and six: what they are given, and what a turn leaves in the record and the samples. Definitions only.
use Rattle.std.specs.Prelude.{true, List, [], ◌≡◌, ℕ, ◌<◌, ◌≤◌, ℤ, get_or, length}
use Rattle.codes.specs.Component.{component_at}
use Rattle.coefficients.specs.Level.{places_fine, predictors_fine}
use Rattle.scan_rows.specs.UpTo.{up_to}
use Rattle.prediction.specs.declared.predictor.BlockPredictors.{BlockPredictors}
use Rattle.samples.specs.Samples.{block_after}
use Rattle.block.specs.Rebuilt.{dc_here, levels_here, values_here}
use Rattle.assembly.specs.Values.{context_fine, samples_of}
use Rattle.assembly.specs.declared.context.MacroblockTextureContext.{MacroblockTextureContext}
use Rattle.neighbours.specs.Neighbours.{around_by, neighbours_fine, predictors}
use Rattle.record.specs.Record.{blank, with_block}
use Rattle.neighbours.specs.Taken.{place_lies}
use Rattle.places.specs.declared.place.Place.{Place}
use Rattle.window_reader.specs.Ends.{ends_of}
use Rattle.samples.specs.Samples.{macroblock_samples}

-- a context and a place that the checks passed
pub record Passed (x : MacroblockTextureContext) (w : List (List ℕ)) (place : Place) (store : List ℤ) : Type 0 where
  pub context : context_fine x w ≡ true
  pub depth : place.bits_per_pixel ≡ x.bits_per_pixel
  pub quantiser : place.quantiser_scale ≡ x.quantiser_scale
  pub lies : place_lies (length store) place ≡ true

-- with six rows of a sentence, each with its end, and `room` samples
pub record SixReady (x : MacroblockTextureContext) (w : List (List ℕ)) (place : Place) (store : List ℤ) (rows : List (List ℤ)) (ends : List ℕ) (room : ℕ) : Type 0 where
  pub passed : Passed x w place store
  pub roomy : macroblock_samples ≤ room
  pub neighbours : neighbours_fine x.bits_per_pixel x.quantiser_scale (around_by place store) (blank x.quantiser_scale) ≡ true
  pub ended : ends ≡ ends_of rows
  pub places : (i : ℕ) → i < 6 → (places_fine (get_or rows i []) ≡ true) × (length (get_or rows i []) ≡ 64)

-- all that block i takes of its neighbours, with the record of the blocks before it
abbrev pub taken_by : MacroblockTextureContext → Place → List ℤ → List ℤ → ℕ → BlockPredictors
taken_by x place store own i = predictors x.bits_per_pixel x.quantiser_scale (around_by place store) own i

-- block i out of its places, those up to `end`
module _ (x : MacroblockTextureContext) (w : List (List ℕ)) (place : Place) (store own qfs : List ℤ) (i : ℕ) where
  pub record TurnReady (end room : ℕ) : Type 0 where
    pub passed : Passed x w place store
    pub roomy : macroblock_samples ≤ room
    pub index : i < 6
    pub long : length own ≡ 91
    pub taken : predictors_fine (taken_by x place store own i) ≡ true
    pub places : places_fine qfs ≡ true
    pub ended : up_to end qfs ≡ qfs

  -- the record with it
  unfoldable pub record_turn : List ℤ
  record_turn = with_block own i (dc_here (component_at i) x (taken_by x place store own i) w qfs) (levels_here (component_at i) x (taken_by x place store own i) w qfs)

  -- the samples with it
  unfoldable pub samples_turn : List ℤ → List ℤ
  samples_turn old = block_after i (samples_of x (values_here (component_at i) x (taken_by x place store own i) w qfs)) old
