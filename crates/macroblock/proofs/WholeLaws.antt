-- Whole macroblocks are read exactly where they stand, never two, and are told as stopped where they break off; and behind a header the reading is that of its blocks. Assumes nothing.
use mathlib.Core.Bool.{Bool}
use mathlib.Core.List.{List}
use mathlib.Core.Path.{◌≡◌, ap, refl, sym, ◌∙◌}
use Prim.Native.Nat.{ℕ, ◌-◌, ◌≤◌}
use native.Mathlib.Omega.{arith}
use lib.IntN.{ℤ}
use Rattle.bits.specs.Bits.{bits_from}
use Rattle.bits.specs.declared.cursor.Cursor.{Cursor}
use Rattle.prediction.specs.declared.predictor.BlockPredictors.{BlockPredictors}
use Rattle.events.specs.declared.spelling.Spellings.{Spellings}
use Rattle.numbers.proofs.Parts.{ok_part}
use Rattle.fields.proofs.ReadLaws.{bind_by}
use Rattle.fields.specs.Answer.{after}
use Rattle.fields.specs.Reader.{Res, bind, no, ok}
use Rattle.fields.specs.declared.error.TextureParseError.{TextureParseError}
use Rattle.sentences.proofs.ComposeLaws.{then_reads}
use Rattle.sentences.proofs.CountLaws.{counts_in}
use Rattle.sentences.proofs.CutSentences.{macroblock_cut_sentence, then_cut}
use Rattle.sentences.proofs.Sentences.{macroblock_sentences, sentences}
use Rattle.sentences.specs.ComposeReader.{CutSentence, Reads}
use Rattle.sentences.specs.Macroblock.{GoodMacroblock, Parts, macroblock_bits}
use Rattle.sentences.specs.MacroblockReader.{read_macroblock}
use Rattle.sentences.specs.Sentences.{Sentences}
use Rattle.assembly.specs.declared.context.MacroblockTextureContext.{MacroblockTextureContext}
use Rattle.assembly.specs.declared.error.BlockAssemblyError.{BlockAssemblyError}
use Rattle.assembly.specs.declared.error.BlockAssemblyError.TheVariants.{Texture}
use Rattle.headers.proofs.AnswerLaws.{HeaderIs}
use Rattle.headers.proofs.HeaderLaws.{header_cut_sentence, header_reads}
use Rattle.headers.specs.Fields.{header_of, pattern_in}
use Rattle.headers.specs.Header.{GoodHeader, Header, header_bits}
use Rattle.headers.specs.HeaderReader.{read_header}
use Rattle.headers.specs.declared.parse.HeaderFields.{HeaderFields}
use Rattle.macroblock.specs.Answer.{samples_told, sentence_of, told}
use Rattle.macroblock.specs.Whole.{GoodWhole, Whole, whole_bits}
use Rattle.macroblock.specs.WholeAnswer.{context_in, samples_whole, whole_of, whole_told}
use Rattle.macroblock.specs.WholeReader.{read_whole}
use Rattle.std.specs.Prelude.{Err, Ok, Result}
use Rattle.macroblock.specs.declared.decode.MacroblockDecoded.{MacroblockDecoded}

module _ (dc_coded rev : Bool) where
  blocks_read : (h : Header) → Reads (read_macroblock dc_coded rev (pattern_in h)) (macroblock_bits (pattern_in h)) (GoodMacroblock dc_coded rev (pattern_in h))
  blocks_read h = let s = macroblock_sentences dc_coded rev (pattern_in h) in record { sound = s.begins; complete = s.own }

  pub whole_sentences : Sentences (read_whole dc_coded rev) whole_bits (GoodWhole dc_coded rev)
  whole_sentences =
      sentences (then_reads read_header header_bits GoodHeader (λ (h : Header). read_macroblock dc_coded rev (pattern_in h)) (λ (h : Header). macroblock_bits (pattern_in h)) (λ (h : Header). GoodMacroblock dc_coded rev (pattern_in h)) header_reads blocks_read)

  pub whole_cut_sentence : CutSentence (read_whole dc_coded rev) whole_bits (GoodWhole dc_coded rev)
  whole_cut_sentence =
      then_cut read_header header_bits GoodHeader (λ (h : Header). read_macroblock dc_coded rev (pattern_in h)) (λ (h : Header). macroblock_bits (pattern_in h)) (λ (h : Header). GoodMacroblock dc_coded rev (pattern_in h)) header_reads header_cut_sentence (λ h. macroblock_cut_sentence dc_coded rev (pattern_in h))

  module _ (d : List ℕ) (at : ℕ) where
    -- no header
    pub whole-not : {e : TextureParseError} → read_header (bits_from d at) ≡ no e → whole_of d at dc_coded rev ≡ no e
    unfolding whole_of
    whole-not q = ap (λ (m : Res Header). bind m (λ h r. bind (read_macroblock dc_coded rev (pattern_in h) r) (λ s r. ok (h, s) r))) q

    -- a header, and behind it the blocks
    abbrev pub joined : Header → Res (List Parts) → Res Whole
    joined h y = bind y (λ s r. ok (h, s) r)

    module _ (q : ℕ) (fs : HeaderFields) (next : Cursor) (k : HeaderIs d at q fs next) where
      abbrev h : Header
      h = k.header

      abbrev blocks : Res (List Parts)
      blocks = sentence_of d next.bit_pos (header_of h) dc_coded rev

      pub whole-behind : whole_of d at dc_coded rev ≡ joined h blocks
      unfolding whole_of sentence_of
      whole-behind = bind_by _ k.read

      -- what the blocks' reading is told, with the header in front
      module _ (r : Result MacroblockDecoded BlockAssemblyError) (e : r ≡ told d next.bit_pos blocks) where
        pub behind-refused : {x : BlockAssemblyError} → r ≡ Err x → Err x ≡ whole_told d at q (whole_of d at dc_coded rev)
        behind-refused {x} f = go blocks (sym f ∙ e) ∙ sym (ap (whole_told d at q) whole-behind)
          where
            go : (y : Res (List Parts)) → Err x ≡ told d next.bit_pos y → Err x ≡ whole_told d at q (joined h y)
            go (ok s u) z = absurd (let n : ◌≡◌ {A = ℕ} 0 1 = cc in omega arith)
            go (no n) z = let m : x ≡ Texture n = cc in ap Err m

        module _ {n : ℕ} {c : Cursor} {counts : Spellings} (f : r ≡ Ok (record { bits = n; next = c; spellings = counts })) where
          pub behind-decoded : Ok (record { bits = c.bit_pos - at; next = c; spellings = counts; fields = fs }) ≡ whole_told d at q (whole_of d at dc_coded rev)
          behind-decoded = go blocks (sym f ∙ e) ∙ sym (ap (whole_told d at q) whole-behind)
            where
              go : (y : Res (List Parts)) → Ok (record { bits = n; next = c; spellings = counts }) ≡ told d next.bit_pos y → Ok (record { bits = c.bit_pos - at; next = c; spellings = counts; fields = fs }) ≡ whole_told d at q (joined h y)
              go (ok s u) z =
                  let o = ok_part z in
                  let m = ap (λ (x : MacroblockDecoded). x.next) o in
                  let t = ap (λ (x : MacroblockDecoded). x.spellings) o in
                  λ i. Ok (record { bits = (m i).bit_pos - at; next = m i; spellings = t i; fields = k.says i })
              go (no x) z = absurd (let n : ◌≡◌ {A = ℕ} 0 1 = cc in omega arith)

          -- its end is not before its start
          pub behind_forward : at ≤ c.bit_pos
          unfolding sentence_of
          behind_forward = go blocks refl (sym f ∙ e)
            where
              go : (y : Res (List Parts)) → blocks ≡ y → Ok (record { bits = n; next = c; spellings = counts }) ≡ told d next.bit_pos y → at ≤ c.bit_pos
              go (ok s u) g z =
                  let m = ap (λ (x : MacroblockDecoded). x.next) (ok_part z) in
                  let p = (macroblock_sentences dc_coded rev (pattern_in h)).position d next.bit_pos k.inside s u g in
                  let l = ap (λ (y : Cursor). y.bit_pos) (m ∙ p) in
                  let o = ap (λ (y : Cursor). y.bit_pos) k.place in
                  omega arith
              go (no x) g z = absurd (let n : ◌≡◌ {A = ℕ} 0 1 = cc in omega arith)

      pub behind-samples : (x : MacroblockTextureContext) → q ≡ x.quantiser_scale → (p : BlockPredictors) (w : List (List ℕ)) (old out : List ℤ)
          → out ≡ samples_told (header_of h) dc_coded (context_in x h) p w blocks old → out ≡ samples_whole dc_coded x p w (whole_of d at dc_coded rev) old
      behind-samples x same p w old out e = e ∙ go blocks ∙ sym (ap (λ (y : Res Whole). samples_whole dc_coded x p w y old) whole-behind)
        where
          go : (y : Res (List Parts)) → samples_told (header_of h) dc_coded (context_in x h) p w y old ≡ samples_whole dc_coded x p w (joined h y) old
          go (ok s u) = refl
          go (no n) = refl
