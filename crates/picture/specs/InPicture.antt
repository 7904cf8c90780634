-- Demand 3 of a macroblock in a picture, and what is told where its sentence breaks off. Definitions only.
use Rattle.std.specs.Prelude.{List, ◌≡◌, ℕ, ◌+◌, ◌<◌, ◌≤◌, T, ℤ, Err, Ok, Result}
use Rattle.bits.specs.Cursor.{cursor_at}
use Rattle.events.specs.Spellings.{spellings_of}
use Rattle.fields.specs.Stopped.{stopped}
use Rattle.sentences.specs.Macroblock.{GoodMacroblock, Parts, events_in, macroblock_bits}
use Rattle.block_reader.specs.Rows.{rows_of}
use Rattle.assembly.specs.Answer.{number_of}
use Rattle.macroblock.specs.Demand.{BeginsAt, BreaksOffAt, Demand3}
use Rattle.headers.specs.Fields.{pattern_by}
use Rattle.record.specs.Record.{known_of, record_at}
use Rattle.record.specs.declared.record.Side.{Side}
use Rattle.picture.specs.Call.{Input, around_here, context_here, state_here, values_here}
use Rattle.picture_state.specs.Picture.{onward}
use Rattle.picture_state.specs.Ring.{offset}
use Rattle.picture.specs.Serial.{kept_as}
use Rattle.picture_state.specs.declared.picture.Picture.{Picture}
use Rattle.picture.specs.declared.call.PictureDecoded.{PictureDecoded}
use Rattle.assembly.specs.declared.error.BlockAssemblyError.{BlockAssemblyError}

-- answered without a number
abbrev pub Accepted : Result PictureDecoded BlockAssemblyError → Type 0
Accepted (Ok d) = Unit {0}
Accepted (Err e) = ⊥

-- n bits, the position n bits on, the sentence's events of each spelling, and one macroblock more
abbrev pub Told : Picture → ℕ → Result PictureDecoded BlockAssemblyError → ℕ → List Parts → Type 0
Told p at r n s = r ≡ Ok (record { bits = n; next = cursor_at (at + n); spellings = spellings_of (events_in s); picture = onward p })

-- refused by 1 or 17
abbrev pub Stopped : Result PictureDecoded BlockAssemblyError → Type 0
Stopped (Ok d) = ⊥
Stopped (Err e) = T (stopped (number_of e))

module _ (p : Picture) (x : Input) (before : List ℤ) where
  abbrev pub Begun : List Parts → Type 0
  Begun s = BeginsAt x.bytes x.start x.context.use_intra_dc_vlc x.context.reversible_vlc (pattern_by x.header) s

  -- what is kept of block i of a sentence
  abbrev pub kept : List Parts → ℕ → Side
  kept s i = kept_as (context_here p x) x.matrix (around_here p x before) (rows_of x.context.use_intra_dc_vlc (pattern_by x.header) s) i

  pub record Promise (r : Result PictureDecoded BlockAssemblyError) (samples store : List ℤ) : Type 0 where
    pub macroblock : Demand3 (macroblock_bits (pattern_by x.header)) (GoodMacroblock x.context.use_intra_dc_vlc x.context.reversible_vlc (pattern_by x.header)) x.bytes x.start (context_here p x)
        (values_here x.header x.context.use_intra_dc_vlc (context_here p x) x.matrix (around_here p x before)) (Accepted r) (Told p x.start r) x.samples samples
    -- each later macroblock that looks at this one, 1 to width + 1 further on, then finds in the store what was worked out here
    pub own : (s : List Parts) → Begun s → (on : ℕ) → 1 ≤ on → on ≤ p.width + 1 → (i : ℕ) → i < 6
        → known_of (record_at store (offset p.width (p.accepted + on) on)) i ≡ kept s i
    -- and where it looks at a macroblock before this one, what stood there before the call
    pub earlier : (s : List Parts) → Begun s → (on back : ℕ) → 1 ≤ on → on < back → back ≤ p.width + 1
        → record_at store (offset p.width (p.accepted + on) back) ≡ record_at before (offset p.width (p.accepted + on) back)

  -- where none of 9 to 15 holds
  abbrev pub DemandInPicture : Result PictureDecoded BlockAssemblyError → List ℤ → List ℤ → Type 0
  DemandInPicture r samples store = state_here p x before ≡ Ok tt → Promise r samples store

  -- where none of 9 to 15 holds: a sentence that breaks off is told so, never as bad
  abbrev pub StoppedInPicture : Result PictureDecoded BlockAssemblyError → Type 0
  StoppedInPicture r =
      state_here p x before ≡ Ok tt
      → (s : List Parts) → BreaksOffAt x.bytes x.start x.context.use_intra_dc_vlc x.context.reversible_vlc (pattern_by x.header) s → Stopped r
