-- All that a call in a picture promises where its header is in its bits: demand 3 of the header and the sentence of its pattern together. Definitions only.
use Rattle.std.specs.Prelude.{List, [], ◌≡◌, ℕ, ◌+◌, ◌-◌, ◌<◌, ◌≤◌, T, ℤ, length, Err, Ok, Result}
use Rattle.numbers.specs.Outcome.{Outcome, accepted, checked, refused}
use Rattle.bits.specs.Bits.{bits_from}
use Rattle.bits.specs.Cursor.{cursor_at}
use Rattle.events.specs.Spellings.{spellings_of}
use Rattle.events.specs.declared.spelling.Spellings.{Spellings}
use Rattle.fields.specs.Outcomes.{read_as}
use Rattle.fields.specs.Stopped.{stopped}
use Rattle.sentences.specs.Compose.{Begins, BreaksOff}
use Rattle.sentences.specs.Macroblock.{events_in}
use Rattle.assembly.specs.Answer.{figure_of, number_of}
use Rattle.headers.specs.Fields.{fields_of}
use Rattle.headers.specs.declared.parse.HeaderFields.{HeaderFields}
use Rattle.macroblock.specs.Demand.{Demand3}
use Rattle.macroblock.specs.Whole.{GoodWhole, Whole, whole_bits}
use Rattle.record.specs.Record.{known_of, record_at}
use Rattle.picture_state.specs.Outcomes.{numbers_before}
use Rattle.picture_state.specs.Picture.{context_of, onward}
use Rattle.picture_state.specs.Ring.{offset}
use Rattle.picture_state.specs.declared.picture.Picture.{Picture}
use Rattle.picture.specs.InPicture.{kept}
use Rattle.picture.specs.Whole.{Bare, answer_out, behind, samples_out, state_bare, store_out, whole_here, whole_values}
use Rattle.picture.specs.declared.whole.PictureWholeDecoded.{PictureWholeDecoded}
use Rattle.assembly.specs.declared.error.BlockAssemblyError.{BlockAssemblyError}

-- answered without a number, or refused by 1 or 17
abbrev pub Accepted : Result PictureWholeDecoded BlockAssemblyError → Type 0
Accepted (Ok d) = Unit {0}
Accepted (Err e) = ⊥

abbrev pub Stopped : Result PictureWholeDecoded BlockAssemblyError → Type 0
Stopped (Ok d) = ⊥
Stopped (Err e) = T (stopped (number_of e))

-- in document 01's numbers: bits taken, the position after them, the number of events of each spelling, the picture with one more accepted, and the header's fields
abbrev pub whole_outcome : Result PictureWholeDecoded BlockAssemblyError → Outcome (ℕ × (ℕ × (Spellings × (Picture × HeaderFields))))
whole_outcome (Ok d) = accepted (d.bits, (d.next.bit_pos, (d.spellings, (d.picture, d.fields))))
whole_outcome (Err e) = refused (number_of e) (figure_of e)

module _ (p : Picture) (x : Bare) where
  abbrev pub Told : Result PictureWholeDecoded BlockAssemblyError → ℕ → Whole → Type 0
  Told r n m = r ≡ Ok (record { bits = n; next = cursor_at (x.start + n); spellings = spellings_of (events_in m.1); picture = onward p; fields = fields_of x.context.quantiser_scale m.0 })

  abbrev pub GoodHere : Whole → Type 0
  GoodHere = GoodWhole x.context.use_intra_dc_vlc x.context.reversible_vlc

  -- the bits from the start to the end of the data begin with a whole macroblock, or break off inside one
  abbrev pub Begun : Whole → Type 0
  Begun m = Begins whole_bits GoodHere (bits_from x.bytes x.start) m

  abbrev pub Broken : Whole → Type 0
  Broken m = BreaksOff whole_bits GoodHere (bits_from x.bytes x.start) m

  abbrev pub whole_said : Whole → ℕ → ℕ × (ℕ × (Spellings × (Picture × HeaderFields)))
  whole_said m position = (position - x.start, (position, (spellings_of (events_in m.1), (onward p, fields_of x.context.quantiser_scale m.0))))

  module _ (before : List ℤ) where
    -- 11, 12, 14, 15, 13, then what is read
    abbrev pub whole_due : Outcome (ℕ × (ℕ × (Spellings × (Picture × HeaderFields))))
    whole_due = checked (numbers_before p x.bytes x.start x.context x.matrix (length x.samples) before []) (read_as whole_said x.bytes (whole_here p x))

    -- demand 3, and what later macroblocks then find in the store
    pub record Promise (r : Result PictureWholeDecoded BlockAssemblyError) (samples store : List ℤ) : Type 0 where
      pub macroblock : Demand3 whole_bits GoodHere x.bytes x.start (context_of p x.context) (whole_values p x before) (Accepted r) (Told r) x.samples samples
      -- each later macroblock that looks at this one finds what was worked out here, with the new quantiser
      pub own : (m : Whole) → Begun m → (on : ℕ) → 1 ≤ on → on ≤ p.width + 1 → (i : ℕ) → i < 6
          → known_of (record_at store (offset p.width (p.accepted + on) on)) i ≡ kept p (behind x m.0) before m.1 i
      -- and where it looks at a macroblock before this one, what stood there before the call
      pub earlier : (m : Whole) → Begun m → (on back : ℕ) → 1 ≤ on → on < back → back ≤ p.width + 1
          → record_at store (offset p.width (p.accepted + on) back) ≡ record_at before (offset p.width (p.accepted + on) back)

    pub record WholeAnswered (r : Result PictureWholeDecoded BlockAssemblyError) (out after : List ℤ) : Type 0 where
      pub answer : r ≡ answer_out p x before
      pub samples : out ≡ samples_out p x before
      pub store : after ≡ store_out p x before
      -- where none of 11 to 15 holds
      pub demand : state_bare p x before ≡ Ok tt → Promise r out after
      -- the answer by number
      pub outcome : whole_outcome r ≡ whole_due
      -- a whole macroblock that breaks off is told so, never as bad
      pub stopped : state_bare p x before ≡ Ok tt → (m : Whole) → Broken m → Stopped r
