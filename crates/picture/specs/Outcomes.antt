-- What the answer of a call in a picture says in document 01's numbers, and what is due. Definitions only.
use Rattle.std.specs.Prelude.{Bool, List, ℕ, ◌-◌, ℤ, length, Err, Ok, Result}
use Rattle.numbers.specs.Outcome.{Outcome, accepted, checked, refused}
use Rattle.events.specs.Spellings.{spellings_of}
use Rattle.events.specs.declared.spelling.Spellings.{Spellings}
use Rattle.sentences.specs.Macroblock.{Parts, events_in}
use Rattle.fields.specs.Outcomes.{read_as}
use Rattle.assembly.specs.Answer.{figure_of, number_of}
use Rattle.picture_state.specs.Outcomes.{state_numbers}
use Rattle.picture_state.specs.Picture.{onward}
use Rattle.picture_state.specs.declared.picture.Picture.{Picture}
use Rattle.picture.specs.Call.{Input, sentence_here}
use Rattle.picture.specs.declared.call.PictureDecoded.{PictureDecoded}
use Rattle.assembly.specs.declared.error.BlockAssemblyError.{BlockAssemblyError}

-- bits taken, the position after them, the number of events of each spelling, and the picture with one more accepted
abbrev pub picture_outcome : Result PictureDecoded BlockAssemblyError → Outcome (ℕ × (ℕ × (Spellings × Picture)))
picture_outcome (Ok d) = accepted (d.bits, (d.next.bit_pos, (d.spellings, d.picture)))
picture_outcome (Err e) = refused (number_of e) (figure_of e)

module _ (p : Picture) (x : Input) (store : List ℤ) where
  -- 11, 12, 14, 15, 13, 9, 10
  abbrev pub call_numbers : List (Bool × ℕ)
  call_numbers = state_numbers p x.bytes x.start x.header x.context x.matrix (length x.samples) store

  abbrev pub call_said : List Parts → ℕ → ℕ × (ℕ × (Spellings × Picture))
  call_said s position = (position - x.start, (position, (spellings_of (events_in s), onward p)))

  abbrev pub call_due : Outcome (ℕ × (ℕ × (Spellings × Picture)))
  call_due = checked call_numbers (read_as call_said x.bytes (sentence_here p x))
