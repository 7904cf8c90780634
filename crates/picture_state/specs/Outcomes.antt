-- What an opening and the checks of a call say in document 01's numbers, and what is due. Definitions only.
use Rattle.std.specs.Prelude.{Bool, List, [], ◌∷◌, ℕ, ◌*◌, leb, ltb, ℤ, length, Err, Ok, Result}
use Rattle.numbers.specs.Outcome.{Outcome, accepted, checked, refused}
use Rattle.ranges.specs.Range.{depth_fine}
use Rattle.bits.specs.Cursor.{in_data}
use Rattle.assembly.specs.Answer.{figure_of, number_of}
use Rattle.assembly.specs.Values.{context_fine}
use Rattle.headers.specs.Outcomes.{header_numbers}
use Rattle.headers.specs.declared.header.MacroblockHeader.{MacroblockHeader}
use Rattle.neighbours.specs.Neighbours.{neighbours_fine}
use Rattle.record.specs.Record.{blank}
use Rattle.picture_state.specs.Picture.{context_of, picture_of, size_fine}
use Rattle.picture_state.specs.Ring.{around_due}
use Rattle.samples.specs.Samples.{macroblock_samples}
use Rattle.picture_state.specs.Sizes.{store_for}
use Rattle.picture_state.specs.State.{due_of}
use Rattle.picture_state.specs.declared.picture.MacroblockContext.{MacroblockContext}
use Rattle.picture_state.specs.declared.picture.Picture.{Picture}
use Rattle.picture_state.specs.declared.state.Due.{Due}
use Rattle.assembly.specs.declared.error.BlockAssemblyError.{BlockAssemblyError}

-- ---- an opening: 11, then 12

abbrev pub opened_outcome : Result Picture BlockAssemblyError → Outcome Picture
opened_outcome (Ok p) = accepted p
opened_outcome (Err e) = refused (number_of e) (figure_of e)

abbrev pub open_due : ℕ → ℕ → ℕ → Bool → Outcome Picture
open_due w h depth method = checked ((size_fine w h, 11) ∷ (depth_fine depth, 12) ∷ []) (accepted (picture_of w h depth method 0))

-- ---- the checks of a call: 11, 12, 14, 15, 13, 9, 10

abbrev pub state_outcome : Result Due BlockAssemblyError → Outcome Due
state_outcome (Ok d) = accepted d
state_outcome (Err e) = refused (number_of e) (figure_of e)

module _ (p : Picture) (d : List ℕ) (at : ℕ) (m : MacroblockContext) (w : List (List ℕ)) (room : ℕ) (store : List ℤ) where
  -- without a header: 11, 12, 14, 15, 13, then what follows
  abbrev pub numbers_before : List (Bool × ℕ) → List (Bool × ℕ)
  numbers_before more =
      (size_fine p.width p.height, 11)
      ∷ (in_data (length d) at, 11)
      ∷ (context_fine (context_of p m) w, 12)
      ∷ (leb macroblock_samples room, 14)
      ∷ (leb (store_for p.width) (length store), 14)
      ∷ (ltb p.accepted (p.width * p.height), 15)
      ∷ (neighbours_fine p.bits_per_pixel m.quantiser_scale (around_due p m.quantiser_scale store) (blank m.quantiser_scale), 13)
      ∷ more

  abbrev pub state_before_due : Outcome Due
  state_before_due = checked (numbers_before []) (accepted (due_of p (context_of p m)))

module _ (p : Picture) (d : List ℕ) (at : ℕ) (h : MacroblockHeader) (m : MacroblockContext) (w : List (List ℕ)) (room : ℕ) (store : List ℤ) where
  abbrev pub state_numbers : List (Bool × ℕ)
  state_numbers = numbers_before p d at m w room store (header_numbers h)

  abbrev pub state_due : Outcome Due
  state_due = checked state_numbers (accepted (due_of p (context_of p m)))
