-- A macroblock whose state is fine, by what was read: what its six blocks are given, and what is told of it. Assumes nothing.
use mathlib.Core.Bool.{Bool, true}
use mathlib.Core.List.{List, []}
use mathlib.Core.Path.{◌≡◌, ap, ap₂, sym, ◌∙◌}
use Prim.Native.Nat.{ℕ, ◌-◌, ◌<◌, ◌≤◌}
use lib.IntN.{ℤ}
use lib.ListN.{get_or, length}
use Rattle.bits.specs.declared.cursor.Cursor.{Cursor}
use Rattle.events.specs.declared.spelling.Spellings.{Spellings}
use Rattle.samples.specs.Samples.{samples_after}
use Rattle.sentences.specs.Macroblock.{Parts}
use Rattle.fields.specs.Reader.{Res}
use Rattle.fields.specs.declared.error.TextureParseError.{TextureParseError}
use Rattle.block.proofs.RowLaws.{SixRead, six_read, six_refused}
use Rattle.block_reader.specs.Rows.{blocks_answer, rows_after}
use Rattle.coefficients.specs.Level.{places_fine, predictors_fine}
use Rattle.prediction.specs.declared.predictor.BlockPredictors.{BlockPredictors}
use Rattle.assembly.specs.Values.{context_fine}
use Rattle.assembly.specs.declared.context.MacroblockTextureContext.{MacroblockTextureContext}
use Rattle.assembly.specs.declared.error.BlockAssemblyError.TheVariants.{Texture}
use Rattle.headers.specs.Fields.{pattern_by}
use Rattle.headers.specs.declared.header.MacroblockHeader.{MacroblockHeader}
use Rattle.window_reader.specs.Ends.{ends_of}
use Rattle.macroblock.proofs.StateLaws.{StateFine, state-fine}
use Rattle.macroblock.specs.Answer.{samples_told, sentence_of, state_of, told}
use Rattle.macroblock.specs.Six.{samples_of_six, values_of_six}
use Rattle.std.specs.Prelude.{Err, Ok, Result}
use Rattle.macroblock.specs.declared.decode.MacroblockDecoded.{MacroblockDecoded}
use Rattle.assembly.specs.declared.error.BlockAssemblyError.{BlockAssemblyError}

module _ (d : List ℕ) (at : ℕ) (header : MacroblockHeader) (dc_coded rev : Bool) (x : MacroblockTextureContext) (p : BlockPredictors) (w : List (List ℕ)) (old : List ℤ)
    (q : state_of d at header x p w (length old) ≡ Ok tt) (pattern : List Bool) (e : pattern ≡ pattern_by header) (answer : Result (Cursor × Spellings) TextureParseError) (f : answer ≡ blocks_answer d at pattern dc_coded rev) where
  fine : StateFine d at x p w (length old)
  fine = state-fine d at header x p w (length old) q

  answered : answer ≡ blocks_answer d at (pattern_by header) dc_coded rev
  answered = f ∙ ap (λ (ps : List Bool). blocks_answer d at ps dc_coded rev) e

  -- what is told, and what the samples hold
  abbrev Tells : Result MacroblockDecoded BlockAssemblyError → List ℤ → Type 0
  Tells r out = (r ≡ told d at (sentence_of d at header dc_coded rev)) × (out ≡ samples_told header dc_coded x p w (sentence_of d at header dc_coded rev) old)

  -- no sentence
  pub unread : {n : TextureParseError} → answer ≡ Err n → Tells (Err (Texture n)) old
  unfolding sentence_of
  unread k =
      let n = six_refused d at (pattern_by header) dc_coded rev fine.inside answer answered k in
      (sym (ap (told d at) n), sym (ap (λ (y : Res (List Parts)). samples_told header dc_coded x p w y old) n))

  -- a sentence, up to `next`
  module _ (rows before : List (List ℤ)) (g : rows ≡ rows_after d at pattern dc_coded rev before) (next : Cursor) (counts : Spellings) (k : answer ≡ Ok (next, counts)) where
    read : SixRead d at (pattern_by header) dc_coded rev rows next counts
    read = six_read d at (pattern_by header) dc_coded rev fine.inside answer answered rows before (g ∙ ap (λ (ps : List Bool). rows_after d at ps dc_coded rev before) e) k

    pub forward : at ≤ next.bit_pos
    forward = read.onward

    pub told-read : Ok (record { bits = next.bit_pos - at; next = next; spellings = counts }) ≡ told d at (sentence_of d at header dc_coded rev)
    unfolding sentence_of
    told-read = ap₂ (λ (y : Cursor) (m : Spellings). Ok (record { bits = y.bit_pos - at; next = y; spellings = m })) read.place read.counts_are ∙ sym (ap (told d at) read.read)

    pub six_ready : (ends : List ℕ) → ends ≡ ends_of rows
        → (384 ≤ length old) × (context_fine x w ≡ true) × (predictors_fine p ≡ true) × (ends ≡ ends_of rows) × ((i : ℕ) → i < 6 → (places_fine (get_or rows i []) ≡ true) × (length (get_or rows i []) ≡ 64))
    six_ready ends m = (fine.roomy, fine.context, fine.predictors, m, λ i l. (read.fine i l, read.long i l))

    -- with its samples
    pub decoded : (out : List ℤ) → out ≡ samples_after (samples_of_six x (values_of_six x p w rows)) old → Tells (Ok (record { bits = next.bit_pos - at; next = next; spellings = counts })) out
    unfolding sentence_of
    decoded out b =
        let values = ap (values_of_six x p w) read.rows_are in
        (told-read, b ∙ ap (λ (fs : List (List (List ℤ))). samples_after (samples_of_six x fs) old) values ∙ sym (ap (λ (y : Res (List Parts)). samples_told header dc_coded x p w y old) read.read))
