-- Where the code of an event is refused, so is the event. Assumes nothing.
use mathlib.Core.Bool.{cond, false, true}
use mathlib.Core.List.{List}
use mathlib.Core.Path.{◌≡◌, refl}
use Prim.Native.Nat.{ℕ}
use lib.Dec.{eqb}
use lib.ListN.{length}
use Rattle.bits.specs.Bits.{bits_from}
use Rattle.bits.specs.Cursor.{in_data}
use Rattle.codes.specs.Rvlc.{rvlc_codes, rvlc_lens}
use Rattle.codes.specs.Tcoef.{vlc_codes, vlc_lens}
use Rattle.codes.specs.declared.tcoef_tables.TcoefTable.{TcoefTable}
use Rattle.events.specs.Answer.{event_answer, event_told}
use Rattle.events.specs.Event.{Event, value_of}
use Rattle.events.specs.EventReader.{escaped, event, plain_event, rvlc_escaped, rvlc_event, sign}
use Rattle.events.specs.declared.event.RowForm.TheVariants.{Plain, Reversible}
use Rattle.fields.proofs.ChainLaws.{refused_first}
use Rattle.fields.specs.Answer.{code_answer}
use Rattle.fields.specs.Reader.{Res, code, mapped}
use Rattle.fields.specs.declared.error.TextureParseError.{TextureParseError}
use Rattle.fields.specs.declared.error.TextureParseError.TheVariants.{InvalidTcoef}
use Rattle.std.specs.Prelude.{Err, Result}
use Rattle.events.specs.declared.event.AcEvent.{AcEvent}
use Rattle.bits.specs.declared.cursor.Cursor.{Cursor}

module _ (d : List ℕ) (at : ℕ) (t : TcoefTable) (g : Result (ℕ × Cursor) TextureParseError) {e : TextureParseError} (f : g ≡ Err e) where
  abbrev told : Res Event → Result (AcEvent × Cursor) TextureParseError
  told x = event_told d (mapped (value_of t) x)

  pub plain-no-code : g ≡ code_answer d at vlc_codes vlc_lens 13 103 InvalidTcoef → Err e ≡ event_answer d at false t
  unfolding event plain_event
  plain-no-code q =
      refused_first d told Err (λ e. refl) (in_data (length d) at) (code vlc_codes vlc_lens 13 103 InvalidTcoef (bits_from d at)) (λ i r. cond (eqb i 102) (escaped r) (sign Plain i r)) g q f

  pub rvlc-no-code : g ≡ code_answer d at rvlc_codes rvlc_lens 16 170 InvalidTcoef → Err e ≡ event_answer d at true t
  unfolding event rvlc_event
  rvlc-no-code q =
      refused_first d told Err (λ e. refl) (in_data (length d) at) (code rvlc_codes rvlc_lens 16 170 InvalidTcoef (bits_from d at)) (λ i r. cond (eqb i 169) (rvlc_escaped r) (sign Reversible i r)) g q f
