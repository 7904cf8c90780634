-- A call in a picture goes on behind the header that was read: what the call behind it is given, and what is answered of both. Assumes nothing.
use mathlib.Core.List.{List}
use mathlib.Core.Path.{◌≡◌, ap, ap₂, refl, subst, subst⁻¹, sym, ◌∙◌}
use Prim.Native.Nat.{ℕ, ◌*◌, ◌+◌, ◌-◌, ◌≤◌}
use native.Mathlib.Omega.{arith}
use lib.IntN.{ℤ}
use lib.ListN.{length}
use Rattle.bits.specs.Bits.{bits_from}
use Rattle.bits.specs.declared.cursor.Cursor.{Cursor}
use Rattle.events.specs.declared.spelling.Spellings.{Spellings}
use Rattle.fields.specs.Answer.{after}
use Rattle.fields.specs.Reader.{Res, no, ok}
use Rattle.numbers.proofs.Parts.{ok_part}
use Rattle.sentences.proofs.Sentences.{macroblock_sentences}
use Rattle.sentences.specs.Macroblock.{Parts}
use Rattle.assembly.proofs.ContextLaws.{quantiser-fine}
use Rattle.assembly.specs.declared.error.BlockAssemblyError.{BlockAssemblyError}
use Rattle.headers.proofs.AnswerLaws.{HeaderIs, header_is, header-not, header_read}
use Rattle.headers.specs.Answer.{header_answer, header_told}
use Rattle.headers.specs.Fields.{fields_of, pattern_in}
use Rattle.headers.specs.Header.{Header, header_bits}
use Rattle.headers.specs.HeaderReader.{read_header}
use Rattle.headers.specs.declared.parse.HeaderFields.{HeaderFields}
use Rattle.macroblock.specs.Answer.{kept_by, sentence_of}
use Rattle.picture_state.proofs.StateLaws.{before_first}
use Rattle.picture_state.specs.Picture.{context_of}
use Rattle.picture_state.specs.Ring.{around_due}
use Rattle.picture_state.specs.State.{due_of}
use Rattle.picture_state.specs.declared.picture.MacroblockContext.{MacroblockContext}
use Rattle.picture_state.specs.declared.picture.Picture.{Picture}
use Rattle.picture_state.specs.declared.state.Due.{Due}
use Rattle.picture.proofs.WholeLaws.{Behind, ends, start-inside, state-behind, whole_answered, whole-not, with_header_is}
use Rattle.picture.specs.Answered.{Answered}
use Rattle.picture.specs.Call as C
use Rattle.picture.specs.Whole.{Bare, answer_out, behind, call_with, due_with, samples_out, samples_whole, state_bare, store_out, store_whole, whole_by, whole_here, whole_told, with_header}
use Rattle.picture.specs.WholeAnswered.{WholeAnswered}
use Rattle.std.specs.Prelude.{Err, Ok, Result, ⊤}
use Rattle.picture.specs.declared.call.PictureDecoded.{PictureDecoded}

module _ (p : Picture) (x : Bare) (store : List ℤ) where
  abbrev q : ℕ
  q = x.context.quantiser_scale

  -- the tests refuse
  pub bare-refused : {n : BlockAssemblyError} → state_bare p x store ≡ Err n → WholeAnswered p x store (Err n) x.samples store
  unfolding answer_out samples_out store_out
  bare-refused f =
      whole_answered p x store _ _ _ (sym (ap (λ (k : Result ⊤ BlockAssemblyError). whole_by p x k (whole_told p x (whole_here p x))) f))
      (sym (ap (λ (k : Result ⊤ BlockAssemblyError). kept_by k (samples_whole p x store (whole_here p x)) x.samples) f)) (sym (ap (λ (k : Result ⊤ BlockAssemblyError). kept_by k (store_whole p x store (whole_here p x)) store) f))

  module _ (f : state_bare p x store ≡ Ok tt) where
    inside : x.start ≤ 8 * length x.bytes
    inside = start-inside p x store f

    -- so the header is what the bits say
    pub header_asked : header_answer x.bytes x.start q ≡ header_told x.bytes q (read_header (bits_from x.bytes x.start))
    header_asked =
        let g = before_first p x.bytes x.start (context_of p x.context) x.matrix (length x.samples) (length store) (around_due p q store) f in
        header_read x.bytes x.start q g.inside (quantiser-fine (context_of p x.context) x.matrix g.context)

    pub header_refused : (r : Result (HeaderFields × Cursor) BlockAssemblyError) → r ≡ header_told x.bytes q (read_header (bits_from x.bytes x.start)) → {n : BlockAssemblyError} → r ≡ Err n → WholeAnswered p x store (Err n) x.samples store
    unfolding answer_out samples_out store_out
    header_refused r e k =
        let y = header-not x.bytes x.start q inside r e k in
        let z = whole-not p x y.1.0 in
        whole_answered p x store _ _ _
        (ap Err y.1.1 ∙ sym (ap (λ (k : Result ⊤ BlockAssemblyError). whole_by p x k (whole_told p x (whole_here p x))) f ∙ ap (whole_told p x) z))
        (sym (ap (λ (k : Result ⊤ BlockAssemblyError). kept_by k (samples_whole p x store (whole_here p x)) x.samples) f ∙ ap (samples_whole p x store) z))
        (sym (ap (λ (k : Result ⊤ BlockAssemblyError). kept_by k (store_whole p x store (whole_here p x)) store) f ∙ ap (store_whole p x store) z))

    -- ---- a header that was read up to `next`

    module _ (fs : HeaderFields) (next : Cursor) (e : Ok (fs, next) ≡ header_told x.bytes q (read_header (bits_from x.bytes x.start))) (y : MacroblockContext) (g : y ≡ call_with fs x.context) where
      abbrev is : HeaderIs x.bytes x.start q fs next
      is = header_is x.bytes x.start q inside (Ok (fs, next)) e refl

      abbrev h : Header
      h = is.header

      -- the call behind it
      abbrev brought : C.Input
      brought = C.given x.bytes next.bit_pos fs.header y x.matrix x.samples

      input_is : brought ≡ behind x h
      input_is =
          let n = ap (λ (c : Cursor). c.bit_pos) is.place in
          let m = g ∙ ap (λ (z : HeaderFields). call_with z x.context) is.says in
          λ i. C.given x.bytes (n i) (is.says i).header (m i) x.matrix x.samples

      there : C.state_here p (behind x h) store ≡ Ok tt
      there = state-behind p x store f h (ends p x inside h _ is.read)

      pub due_fine : C.state_here p brought store ≡ Ok tt
      due_fine = subst⁻¹ (λ (j : C.Input). C.state_here p j store ≡ Ok tt) input_is there

      pub due_is : (due then : Due) → due ≡ due_of p (context_of p x.context) → then ≡ due_with fs due → then ≡ due_of p (context_of p y)
      due_is due then k l = l ∙ ap (due_with fs) k ∙ sym (ap (λ (z : MacroblockContext). due_of p (context_of p z)) g)

      module _ (r : Result PictureDecoded BlockAssemblyError) (out st : List ℤ) (a : Answered p brought store r out st) where
        base : Answered p (behind x h) store r out st
        base = subst (λ (j : C.Input). Answered p j store r out st) input_is a

        both : Behind p x store f h _ is.read
        both = with_header_is p x store f h _ is.read

        pub behind-refused : {n : BlockAssemblyError} → r ≡ Err n → WholeAnswered p x store (Err n) out st
        behind-refused k =
            whole_answered p x store _ out st (ap (with_header (length (header_bits h)) (fields_of q h)) (sym k ∙ base.answer) ∙ sym both.answer) (base.samples ∙ sym both.samples) (base.store ∙ sym both.kept)

        module _ {n : ℕ} {c : Cursor} {counts : Spellings} {o : Picture} (k : r ≡ Ok (record { bits = n; next = c; spellings = counts; picture = o })) where
          abbrev at : ℕ
          at = x.start + length (header_bits h)

          -- its bits are those from the end of the header to its own
          forward : (n ≡ c.bit_pos - at) × (at ≤ c.bit_pos)
          unfolding C.answer_out sentence_of
          forward = go (C.sentence_here p (behind x h)) refl (sym k ∙ base.answer ∙ ap (C.answer_with p (behind x h)) there)
            where
              go : (m : Res (List Parts)) → C.sentence_here p (behind x h) ≡ m → Ok (record { bits = n; next = c; spellings = counts; picture = o }) ≡ C.answer_told p x.bytes at m → (n ≡ c.bit_pos - at) × (at ≤ c.bit_pos)
              go (ok s u) z w =
                  let d = ok_part w in
                  let v : c ≡ after x.bytes u = ap (λ (y : PictureDecoded). y.next) d in
                  let t : n ≡ (after x.bytes u).bit_pos - at = ap (λ (y : PictureDecoded). y.bits) d in
                  let l = (macroblock_sentences x.context.use_intra_dc_vlc x.context.reversible_vlc (pattern_in h)).position x.bytes at (ends p x inside h _ is.read) s u z in
                  let f = ap (λ (y : Cursor). y.bit_pos) v in
                  let m = ap (λ (y : Cursor). y.bit_pos) (v ∙ l) in
                  (t ∙ ap (λ (j : ℕ). j - at) (sym f), omega arith)
              go (no m) z w = absurd (let v : ◌≡◌ {A = ℕ} 0 1 = cc in omega arith)

          pub onward-from : x.start ≤ c.bit_pos
          onward-from = let l = forward.1 in omega arith

          pub behind-decoded : WholeAnswered p x store (Ok (record { bits = c.bit_pos - x.start; next = c; spellings = counts; picture = o; fields = fs })) out st
          behind-decoded =
              let m : c.bit_pos - x.start ≡ length (header_bits h) + n = let z = forward in omega (arith, z.0, z.1) in
              whole_answered p x store _ out st
              (ap₂ (λ (j : ℕ) (z : HeaderFields). Ok (record { bits = j; next = c; spellings = counts; picture = o; fields = z })) m is.says ∙ ap (with_header (length (header_bits h)) (fields_of q h)) (sym k ∙ base.answer) ∙ sym both.answer)
              (base.samples ∙ sym both.samples) (base.store ∙ sym both.kept)
