-- What a call in a picture answers and leaves in the lent samples and store where its header is in its bits, refusals included. Definitions only.
use Rattle.std.specs.Prelude.{List, ℕ, ◌+◌, ◌-◌, ℤ, length, Err, Ok, Result, ⊤}
use Rattle.bits.specs.Bits.{bits_from}
use Rattle.samples.specs.Samples.{samples_after}
use Rattle.fields.specs.Answer.{after}
use Rattle.events.specs.Spellings.{spellings_of}
use Rattle.sentences.specs.Macroblock.{events_in}
use Rattle.fields.specs.Reader.{Res, no, ok}
use Rattle.assembly.specs.declared.error.BlockAssemblyError.TheVariants.{Texture}
use Rattle.headers.specs.Fields.{context_with, fields_of, header_of}
use Rattle.headers.specs.Header.{Header, header_bits}
use Rattle.headers.specs.declared.parse.HeaderFields.{HeaderFields}
use Rattle.macroblock.specs.Answer.{kept_by}
use Rattle.macroblock.specs.Six.{samples_of_six}
use Rattle.macroblock.specs.Whole.{Whole}
use Rattle.macroblock.specs.WholeReader.{read_whole}
use Rattle.places.specs.declared.place.Place.{Place}
use Rattle.record.specs.Record.{stored_at}
use Rattle.picture_state.specs.Picture.{context_of, onward}
use Rattle.picture_state.specs.Ring.{around_due, offset}
use Rattle.picture_state.specs.State.{state_before}
use Rattle.picture_state.specs.declared.picture.MacroblockContext.{MacroblockContext}
use Rattle.picture_state.specs.declared.picture.Picture.{Picture}
use Rattle.picture_state.specs.declared.state.Due.{Due}
use Rattle.picture.specs.Call.{Input, around_here, context_here, record_here, values_here}
use Rattle.assembly.specs.declared.error.BlockAssemblyError.{BlockAssemblyError}
use Rattle.picture.specs.declared.call.PictureDecoded.{PictureDecoded}
use Rattle.picture.specs.declared.whole.PictureWholeDecoded.{PictureWholeDecoded}

-- what a call brings; its quantiser is the one before the header
pub record Bare : Type 0 where
  pub bytes : List ℕ
  pub start : ℕ
  pub context : MacroblockContext
  pub matrix : List (List ℕ)
  pub samples : List ℤ

abbrev pub bare : List ℕ → ℕ → MacroblockContext → List (List ℕ) → List ℤ → Bare
bare d at m w s = record { bytes = d; start = at; context = m; matrix = w; samples = s }

-- with a header's new quantiser and flag
abbrev pub call_with : HeaderFields → MacroblockContext → MacroblockContext
call_with f m =
    record {
      quantiser_scale = f.quantiser_scale;
      ac_pred_flag = f.header.ac_pred_flag;
      alternate_vertical_scan = m.alternate_vertical_scan;
      intra_mismatch_exempt = m.intra_mismatch_exempt;
      idct_rounding = m.idct_rounding;
      use_intra_dc_vlc = m.use_intra_dc_vlc;
      reversible_vlc = m.reversible_vlc;
    }

-- the macroblock that is due with them: its missing neighbours have the new quantiser
abbrev pub place_with : ℕ → Place → Place
place_with q p =
    record {
      left = p.left;
      has_left = p.has_left;
      above_left = p.above_left;
      has_above_left = p.has_above_left;
      above = p.above;
      has_above = p.has_above;
      bits_per_pixel = p.bits_per_pixel;
      quantiser_scale = q;
    }

abbrev pub due_with : HeaderFields → Due → Due
due_with f due = record { context = context_with f due.context; place = place_with f.quantiser_scale due.place; own = due.own }

-- the call behind the header: at the position after it, with its fields, its new quantiser and its flag
abbrev pub behind : Bare → Header → Input
behind x h =
    record {
      bytes = x.bytes;
      start = x.start + length (header_bits h);
      header = header_of h;
      context = call_with (fields_of x.context.quantiser_scale h) x.context;
      matrix = x.matrix;
      samples = x.samples;
    }

-- the answer of the call behind a header of n bits, with the header in front
abbrev pub with_header : ℕ → HeaderFields → Result PictureDecoded BlockAssemblyError → Result PictureWholeDecoded BlockAssemblyError
with_header n f (Ok d) = Ok (record { bits = n + d.bits; next = d.next; spellings = d.spellings; picture = d.picture; fields = f })
with_header n f (Err e) = Err e

module _ (p : Picture) (x : Bare) where
  abbrev pub whole_here : Res Whole
  whole_here = read_whole x.context.use_intra_dc_vlc x.context.reversible_vlc (bits_from x.bytes x.start)

  -- ---- of what was read

  abbrev pub whole_told : Res Whole → Result PictureWholeDecoded BlockAssemblyError
  whole_told (ok m r) = Ok (record { bits = (after x.bytes r).bit_pos - x.start; next = after x.bytes r; spellings = spellings_of (events_in m.1); picture = onward p; fields = fields_of x.context.quantiser_scale m.0 })
  whole_told (no e) = Err (Texture e)

  abbrev pub whole_by : Result ⊤ BlockAssemblyError → Result PictureWholeDecoded BlockAssemblyError → Result PictureWholeDecoded BlockAssemblyError
  whole_by (Ok tt) a = a
  whole_by (Err e) a = Err e

  module _ (store : List ℤ) where
    -- the values of a whole macroblock, and what is kept of it
    abbrev pub whole_values : Whole → List (List (List ℤ))
    whole_values m = values_here (header_of m.0) x.context.use_intra_dc_vlc (context_here p (behind x m.0)) x.matrix (around_here p (behind x m.0) store) m.1

    abbrev pub whole_record : Whole → List ℤ
    whole_record m = record_here (header_of m.0) x.context.use_intra_dc_vlc (context_here p (behind x m.0)) x.matrix (around_here p (behind x m.0) store) m.1

    abbrev pub samples_whole : Res Whole → List ℤ
    samples_whole (ok m r) = samples_after (samples_of_six (context_here p (behind x m.0)) (whole_values m)) x.samples
    samples_whole (no e) = x.samples

    abbrev pub store_whole : Res Whole → List ℤ
    store_whole (ok m r) = stored_at store (offset p.width p.accepted 0) (whole_record m)
    store_whole (no e) = store

    -- ---- of the call: the state, then what is read

    abbrev pub state_bare : Result ⊤ BlockAssemblyError
    state_bare = state_before p x.bytes x.start (context_of p x.context) x.matrix (length x.samples) (length store) (around_due p x.context.quantiser_scale store)

    unfoldable pub answer_out : Result PictureWholeDecoded BlockAssemblyError
    answer_out = whole_by state_bare (whole_told whole_here)

    unfoldable pub samples_out : List ℤ
    samples_out = kept_by state_bare (samples_whole whole_here) x.samples

    unfoldable pub store_out : List ℤ
    store_out = kept_by state_bare (store_whole whole_here) store
