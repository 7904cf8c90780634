-- The checks of a call in a picture, before any bit, in their order: 11, 12, 14, 15, 13, 9, 10. Definitions only.
use Rattle.std.specs.Prelude.{Bool, List, [], ◌∷◌, ◌++◌, ℕ, ◌*◌, leb, ltb, length, Err, Ok, Result, ⊤}
use Rattle.bits.specs.Cursor.{in_data}
use Rattle.assembly.specs.Answer.{first_bad}
use Rattle.assembly.specs.Values.{context_fine}
use Rattle.assembly.specs.declared.context.MacroblockTextureContext.{MacroblockTextureContext}
use Rattle.assembly.specs.declared.error.BlockAssemblyError.{BlockAssemblyError}
use Rattle.assembly.specs.declared.error.BlockAssemblyError.TheVariants.{Complete, Context, OutOfRange, Predictor, TooShort}
use Rattle.headers.specs.Fields.{header_tests}
use Rattle.headers.specs.declared.header.MacroblockHeader.{MacroblockHeader}
use Rattle.neighbours.specs.Neighbours.{Around, neighbours_fine}
use Rattle.record.specs.Record.{blank}
use Rattle.picture_state.specs.Picture.{size_fine}
use Rattle.picture_state.specs.Ring.{offset, place_of}
use Rattle.samples.specs.Samples.{macroblock_samples}
use Rattle.picture_state.specs.Sizes.{store_for}
use Rattle.picture_state.specs.declared.picture.Picture.{Picture}
use Rattle.picture_state.specs.declared.state.Due.{Due}

-- the stored neighbours that the six blocks take
abbrev pub neighbour_tests : Picture → MacroblockTextureContext → Around → List (Bool × BlockAssemblyError)
neighbour_tests p x ar = (neighbours_fine p.bits_per_pixel x.quantiser_scale ar (blank x.quantiser_scale), Predictor) ∷ []

-- and the header
abbrev pub later_tests : Picture → MacroblockHeader → MacroblockTextureContext → Around → List (Bool × BlockAssemblyError)
later_tests p h x ar = (neighbours_fine p.bits_per_pixel x.quantiser_scale ar (blank x.quantiser_scale), Predictor) ∷ header_tests h

module _ (p : Picture) (d : List ℕ) (at : ℕ) where
  -- `room` samples and `stored` numbers of the store are lent
  abbrev pub first_tests : MacroblockTextureContext → List (List ℕ) → ℕ → ℕ → List (Bool × BlockAssemblyError)
  first_tests x w room stored =
      (size_fine p.width p.height, OutOfRange)
      ∷ (in_data (length d) at, OutOfRange)
      ∷ (context_fine x w, Context)
      ∷ (leb macroblock_samples room, TooShort)
      ∷ (leb (store_for p.width) stored, TooShort)
      ∷ (ltb p.accepted (p.width * p.height), Complete)
      ∷ []

  -- without a header: 11, 12, 14, 15, 13
  unfoldable pub state_before : MacroblockTextureContext → List (List ℕ) → ℕ → ℕ → Around → Result ⊤ BlockAssemblyError
  state_before x w room stored ar = first_bad (first_tests x w room stored ++ neighbour_tests p x ar)

  unfoldable pub state_by : MacroblockHeader → MacroblockTextureContext → List (List ℕ) → ℕ → ℕ → Around → Result ⊤ BlockAssemblyError
  state_by h x w room stored ar = first_bad (first_tests x w room stored ++ later_tests p h x ar)

-- the macroblock that is due, in its context
abbrev pub due_of : Picture → MacroblockTextureContext → Due
due_of p x = record { context = x; place = place_of p x.quantiser_scale; own = offset p.width p.accepted 0 }

abbrev pub checked_by : Picture → MacroblockTextureContext → Result ⊤ BlockAssemblyError → Result Due BlockAssemblyError
checked_by p x (Ok tt) = Ok (due_of p x)
checked_by p x (Err e) = Err e
