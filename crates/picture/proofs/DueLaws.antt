-- A call whose state is fine, by what was read: what the six blocks are given, and all that is promised. Assumes nothing.
use mathlib.Core.Bool.{Bool}
use mathlib.Core.List.{List}
use mathlib.Core.Path.{◌≡◌, ap, ap₂, refl, subst⁻¹, sym, ◌∙◌}
use Prim.Native.Nat.{ℕ, ◌+◌, ◌-◌, ◌≤◌}
use native.Mathlib.Omega.{arith}
use lib.IntN.{ℤ}
use lib.ListN.{length}
use mir.Syntax.{w32}
use mir.Val.{Fits}
use Rattle.bits.specs.declared.cursor.Cursor.{Cursor}
use Rattle.events.specs.declared.spelling.Spellings.{Spellings}
use Rattle.samples.specs.Samples.{samples_after}
use Rattle.fields.specs.declared.error.TextureParseError.{TextureParseError}
use Rattle.block.proofs.RowLaws.{SixRead, six_read, six_refused}
use Rattle.block_reader.specs.Rows.{blocks_answer, rows_after}
use Rattle.assembly.specs.declared.error.BlockAssemblyError.TheVariants.{Texture}
use Rattle.macroblock.specs.Answer.{sentence_of}
use Rattle.headers.specs.Fields.{pattern_by}
use Rattle.macroblock.specs.Six.{samples_of_six}
use Rattle.neighbours.specs.Neighbours.{around_by}
use Rattle.record.specs.Record.{stored_at}
use Rattle.picture_state.proofs.StateLaws.{FirstFine, place-lies, state_first, state-neighbours}
use Rattle.picture_state.specs.Picture.{onward}
use Rattle.picture_state.specs.Ring.{around_due}
use Rattle.picture_state.specs.State.{due_of}
use Rattle.picture_state.specs.declared.picture.Picture.{Picture}
use Rattle.picture_state.specs.declared.state.Due.{Due}
use Rattle.window_reader.specs.Ends.{ends_of}
use Rattle.picture.proofs.CallLaws.{samples_read, store_read, whole}
use Rattle.picture.specs.Answered.{Answered}
use Rattle.picture.specs.Call.{Input, answer_told, around_here, context_here, state_here}
use Rattle.picture.specs.Serial.{record_of, values_in_turn}
use Rattle.picture.specs.Turn.{SixReady}
use Rattle.std.specs.Prelude.{Err, Ok, Result}

module _ (p : Picture) (x : Input) (store : List ℤ) (q : state_here p x store ≡ Ok tt) (pattern : List Bool) (e : pattern ≡ pattern_by x.header)
    (answer : Result (Cursor × Spellings) TextureParseError) (f : answer ≡ blocks_answer x.bytes x.start pattern x.context.use_intra_dc_vlc x.context.reversible_vlc) where
  abbrev dc_coded : Bool
  dc_coded = x.context.use_intra_dc_vlc

  abbrev rev : Bool
  rev = x.context.reversible_vlc

  pub fine : FirstFine p x.bytes x.start (context_here p x) x.matrix (length x.samples) (length store)
  fine = state_first p x.bytes x.start (context_here p x) x.matrix (length x.samples) (length store) x.header (around_here p x store) q

  answered : answer ≡ blocks_answer x.bytes x.start (pattern_by x.header) dc_coded rev
  answered = f ∙ ap (λ (ps : List Bool). blocks_answer x.bytes x.start ps dc_coded rev) e

  -- no sentence
  pub unread : {n : TextureParseError} → answer ≡ Err n → Answered p x store (Err (Texture n)) x.samples store
  unfolding sentence_of
  unread k =
      let n = six_refused x.bytes x.start (pattern_by x.header) dc_coded rev fine.inside answer answered k in
      whole p x store q _ _ _ (sym (ap (answer_told p x.bytes x.start) n)) (sym (ap (samples_read p x store) n)) (sym (ap (store_read p x store) n))

  -- a sentence, up to `next`
  module _ (rows old : List (List ℤ)) (g : rows ≡ rows_after x.bytes x.start pattern dc_coded rev old) (next : Cursor) (counts : Spellings) (k : answer ≡ Ok (next, counts)) where
    read : SixRead x.bytes x.start (pattern_by x.header) dc_coded rev rows next counts
    read = six_read x.bytes x.start (pattern_by x.header) dc_coded rev fine.inside answer answered rows old (g ∙ ap (λ (ps : List Bool). rows_after x.bytes x.start ps dc_coded rev old) e) k

    -- its end is not before its start, and one more macroblock can be counted
    pub forward : x.start ≤ next.bit_pos
    forward = read.onward

    pub counted : Fits w32 (p.accepted + 1)
    counted = record { fits = omega (arith, fine.size.cells, fine.due) }

    module _ (due : Due) (d : due ≡ due_of p (context_here p x)) where
      pub six_ready : (ends : List ℕ) → ends ≡ ends_of rows → SixReady due.context x.matrix due.place store rows ends (length x.samples)
      unfolding around_due
      six_ready ends n =
          subst⁻¹ (λ (y : Due). SixReady y.context x.matrix y.place store rows ends (length x.samples)) d
          (record {
            passed = record { context = fine.context; depth = refl; quantiser = refl; lies = place-lies p x.context.quantiser_scale (length store) fine.size.w_low fine.long };
            roomy = fine.roomy;
            neighbours = state-neighbours p x.bytes x.start (context_here p x) x.matrix (length x.samples) (length store) x.header (around_here p x store) q;
            ended = n;
            places = λ i l. (read.fine i l, read.long i l);
          })

      -- with its samples and its record
      pub decoded : {out st : List ℤ}
          → out ≡ samples_after (samples_of_six due.context (values_in_turn due.context x.matrix (around_by due.place store) rows)) x.samples
          → st ≡ stored_at store due.own (record_of due.context x.matrix (around_by due.place store) rows) → Answered p x store (Ok (record { bits = next.bit_pos - x.start; next = next; spellings = counts; picture = onward p })) out st
      unfolding around_due sentence_of
      decoded b c =
          let m = read.rows_are in
          whole p x store q _ _ _
          (ap₂ (λ (y : Cursor) (n : Spellings). Ok (record { bits = y.bit_pos - x.start; next = y; spellings = n; picture = onward p })) read.place read.counts_are ∙ sym (ap (answer_told p x.bytes x.start) read.read))
          (b
          ∙ ap₂ (λ (y : Due) (rs : List (List ℤ)). samples_after (samples_of_six y.context (values_in_turn y.context x.matrix (around_by y.place store) rs)) x.samples) d m
          ∙ sym (ap (samples_read p x store) read.read))
          (c
          ∙ ap₂ (λ (y : Due) (rs : List (List ℤ)). stored_at store y.own (record_of y.context x.matrix (around_by y.place store) rs)) d m
          ∙ sym (ap (store_read p x store) read.read))
