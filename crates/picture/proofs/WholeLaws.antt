-- A call in a picture with its header in its bits: behind its header it is the call that is handed it, and all that is promised follows of what it answers and leaves. Assumes nothing.
use mathlib.Core.Bool.{Bool}
use mathlib.Core.List.{List, [], ◌++◌, append_assoc}
use mathlib.Core.Path.{◌≡◌, ap, refl, subst, subst⁻¹, sym, ◌∙◌}
use Prim.Native.Nat.{ℕ, ◌*◌, ◌+◌, ◌-◌, ◌≤◌}
use native.Mathlib.Omega.{arith}
use lib.IntN.{ℤ}
use lib.ListN.{drop, length, length-append}
use lib.Seq.{drop_at}
use Rattle.numbers.specs.Outcome.{checked}
use Rattle.bits.proofs.BitLaws.{length-bits_from}
use Rattle.bits.proofs.CursorLaws.{in_data_by, in_data_yes}
use Rattle.bits.specs.Bits.{Bits, bits_from}
use Rattle.bits.specs.Cursor.{cursor_at}
use Rattle.bits.specs.declared.cursor.Cursor.{Cursor}
use Rattle.samples.specs.Samples.{samples_after}
use Rattle.events.specs.Event.{◌▸◌}
use Rattle.events.specs.declared.spelling.Spellings.{Spellings}
use Rattle.fields.proofs.ReadLaws.{bind_by}
use Rattle.fields.proofs.StepLaws.{from_on}
use Rattle.fields.specs.Answer.{after}
use Rattle.fields.specs.Reader.{Res, bind, no, ok}
use Rattle.fields.specs.Stopped.{Stops}
use Rattle.fields.specs.declared.error.TextureParseError.{TextureParseError}
use Rattle.sentences.proofs.CountLaws.{counts_in}
use Rattle.sentences.proofs.Sentences.{macroblock_sentences}
use Rattle.sentences.specs.Macroblock.{Parts, macroblock_bits}
use Rattle.sentences.specs.MacroblockReader.{read_macroblock}
use Rattle.assembly.proofs.ContextLaws.{depth-fine}
use Rattle.assembly.proofs.OutcomeLaws.{answered, read_by}
use Rattle.block_reader.specs.Rows.{rows_of}
use Rattle.headers.proofs.HeaderLaws.{context-fine, header-checked, header_sentences, new_fine}
use Rattle.headers.specs.Fields.{fields_of, header_of, new_quantiser, pattern_in}
use Rattle.headers.specs.Header.{Header, header_bits}
use Rattle.headers.specs.HeaderReader.{read_header}
use Rattle.headers.specs.declared.parse.HeaderFields.{HeaderFields}
use Rattle.macroblock.proofs.DemandLaws.{Call, demand}
use Rattle.macroblock.proofs.WholeLaws.{whole_cut_sentence, whole_sentences}
use Rattle.macroblock.specs.Answer.{kept_by, sentence_of}
use Rattle.macroblock.specs.Six.{samples_of_six}
use Rattle.macroblock.specs.Whole.{Whole, whole_bits}
use Rattle.macroblock.specs.WholeReader.{read_whole}
use Rattle.neighbours.proofs.SoundLaws.{any_quantiser}
use Rattle.picture_state.proofs.StateLaws.{FirstFine, before_fine, before_first, before_neighbours, before_size, state-after}
use Rattle.picture_state.specs.Outcomes.{numbers_before}
use Rattle.picture_state.specs.Picture.{context_of, onward}
use Rattle.picture_state.specs.Ring.{around_due}
use Rattle.picture_state.specs.State.{first_tests, neighbour_tests, state_before}
use Rattle.picture_state.specs.declared.picture.Picture.{Picture}
use Rattle.picture.proofs.CallLaws.{samples_read, store_read, whole}
use Rattle.picture.proofs.SerialLaws.{turn-fine}
use Rattle.picture.specs.Call as C
use Rattle.picture.specs.InPicture as I
use Rattle.picture.specs.Whole.{Bare, answer_out, behind, samples_out, samples_whole, state_bare, store_out, store_whole, whole_by, whole_here, whole_told, whole_values, with_header}
use Rattle.picture.specs.WholeAnswered.{Accepted, Begun, Broken, GoodHere, Promise, Stopped, Told, WholeAnswered, whole_due, whole_outcome, whole_said}
use Rattle.std.specs.Prelude.{Ok, Result, ⊤}
use Rattle.assembly.specs.declared.error.BlockAssemblyError.{BlockAssemblyError}
use Rattle.picture.specs.declared.whole.PictureWholeDecoded.{PictureWholeDecoded}

module _ (p : Picture) (x : Bare) where
  abbrev dc_coded : Bool
  dc_coded = x.context.use_intra_dc_vlc

  abbrev rev : Bool
  rev = x.context.reversible_vlc

  abbrev q : ℕ
  q = x.context.quantiser_scale

  abbrev b : Bits
  b = bits_from x.bytes x.start

  abbrev blocks : Header → Res (List Parts)
  blocks h = C.sentence_here p (behind x h)

  -- ---- what was read

  pub whole-not : {e : TextureParseError} → read_header b ≡ no e → whole_here p x ≡ no e
  whole-not e = ap (λ (m : Res Header). bind m (λ h r. bind (read_macroblock dc_coded rev (pattern_in h) r) (λ s r. ok (h, s) r))) e

  module _ (inside : x.start ≤ 8 * length x.bytes) (h : Header) (r : Bits) (e : read_header b ≡ ok h r) where
    -- the header ends inside the data
    pub ends : x.start + length (header_bits h) ≤ 8 * length x.bytes
    ends =
        let s = header_sentences.begins b h r e in
        let n = ap length s.1 ∙ length-append (header_bits h) r in
        let m = length-bits_from x.bytes x.start in
        omega arith

    rest-is : bits_from x.bytes (x.start + length (header_bits h)) ≡ r
    rest-is =
        let s = header_sentences.begins b h r e in
        sym (from_on x.bytes x.start (length (header_bits h))) ∙ ap (drop (length (header_bits h))) s.1 ∙ drop_at (header_bits h) r (length (header_bits h)) refl

    pub whole-behind : whole_here p x ≡ bind (blocks h) (λ s r. ok (h, s) r)
    unfolding sentence_of
    whole-behind = bind_by _ e ∙ ap (λ (u : Bits). bind (read_macroblock dc_coded rev (pattern_in h) u) (λ s r. ok (h, s) r)) (sym rest-is)

  module _ (store : List ℤ) where
    abbrev state : Result ⊤ BlockAssemblyError
    state = state_bare p x store

    -- the tests pass behind the header too
    pub state-behind : state ≡ Ok tt → (h : Header) → x.start + length (header_bits h) ≤ 8 * length x.bytes → C.state_here p (behind x h) store ≡ Ok tt
    unfolding around_due
    state-behind f h l =
        let y = context_of p x.context in
        let z = C.context_here p (behind x h) in
        let at = x.start + length (header_bits h) in
        let ar = around_due p q store in
        let g = before_first p x.bytes x.start y x.matrix (length x.samples) (length store) ar f in
        let n = before_neighbours p x.bytes x.start y x.matrix (length x.samples) (length store) ar f in
        let s = before_size p x.bytes x.start y x.matrix (length x.samples) (length store) ar f in
        let k : FirstFine p x.bytes at z x.matrix (length x.samples) (length store) = record {
          size = g.size;
          inside = in_data_by (length x.bytes) at (in_data_yes (length x.bytes) x.start g.inside).0 l;
          context = context-fine y x.matrix h g.context;
          roomy = g.roomy;
          long = g.long;
          due = g.due;
        } in
        state-after p x.bytes at z x.matrix (length x.samples) (length store) (header_of h) (C.around_here p (behind x h) store)
        (before_fine p x.bytes at z x.matrix (length x.samples) (length store) (C.around_here p (behind x h) store) s k (any_quantiser p.bits_per_pixel q (new_quantiser q h) ar (new_fine q h) n))
        ∙ header-checked h

    -- ---- where the header is read, the call is the one behind it, and takes the header's bits more

    module _ (f : state ≡ Ok tt) where
      pub start-inside : x.start ≤ 8 * length x.bytes
      start-inside = (in_data_yes (length x.bytes) x.start (before_first p x.bytes x.start (context_of p x.context) x.matrix (length x.samples) (length store) (around_due p q store) f).inside).1

      module _ (h : Header) (r : Bits) (e : read_header b ≡ ok h r) where
        there : C.state_here p (behind x h) store ≡ Ok tt
        there = state-behind f h (ends start-inside h r e)

        answer-told : (y : Res (List Parts)) → blocks h ≡ y
            → whole_told p x (bind y (λ s r. ok (h, s) r)) ≡ with_header (length (header_bits h)) (fields_of q h) (C.answer_told p x.bytes (x.start + length (header_bits h)) y)
        unfolding sentence_of
        answer-told (ok s u) g =
            let at = x.start + length (header_bits h) in
            let n = (macroblock_sentences dc_coded rev (pattern_in h)).position x.bytes at (ends start-inside h r e) s u g in
            let m = ap (λ (c : Cursor). c.bit_pos) n in
            let k : (after x.bytes u).bit_pos - x.start ≡ length (header_bits h) + ((after x.bytes u).bit_pos - at) = omega arith in
            ap (λ (j : ℕ). Ok (record { bits = j; next = after x.bytes u; spellings = counts_in s; picture = onward p; fields = fields_of q h })) k
        answer-told (no n) g = refl

        samples-told : (y : Res (List Parts)) → samples_whole p x store (bind y (λ s r. ok (h, s) r)) ≡ samples_read p (behind x h) store y
        samples-told (ok s u) = refl
        samples-told (no n) = refl

        store_told_lem : (y : Res (List Parts)) → store_whole p x store (bind y (λ s r. ok (h, s) r)) ≡ store_read p (behind x h) store y
        store_told_lem (ok s u) = refl
        store_told_lem (no n) = refl

        pub record Behind : Type 0 where
          pub answer : answer_out p x store ≡ with_header (length (header_bits h)) (fields_of q h) (C.answer_out p (behind x h) store)
          pub samples : samples_out p x store ≡ C.samples_out p (behind x h) store
          pub kept : store_out p x store ≡ C.store_out p (behind x h) store

        pub with_header_is : Behind
        unfolding answer_out samples_out store_out C.answer_out C.samples_out C.store_out
        with_header_is =
            let w = whole-behind start-inside h r e in record {
              answer = ap (λ (k : Result ⊤ BlockAssemblyError). whole_by p x k (whole_told p x (whole_here p x))) f ∙ ap (whole_told p x) w ∙ answer-told (blocks h) refl
                  ∙ sym (ap (λ (k : Result ⊤ BlockAssemblyError). with_header (length (header_bits h)) (fields_of q h) (C.answer_with p (behind x h) k)) there);
              samples = ap (λ (k : Result ⊤ BlockAssemblyError). kept_by k (samples_whole p x store (whole_here p x)) x.samples) f ∙ ap (samples_whole p x store) w ∙ samples-told (blocks h)
                  ∙ sym (ap (λ (k : Result ⊤ BlockAssemblyError). kept_by k (samples_read p (behind x h) store (blocks h)) x.samples) there);
              kept = ap (λ (k : Result ⊤ BlockAssemblyError). kept_by k (store_whole p x store (whole_here p x)) store) f ∙ ap (store_whole p x store) w ∙ store_told_lem (blocks h)
                  ∙ sym (ap (λ (k : Result ⊤ BlockAssemblyError). kept_by k (store_read p (behind x h) store (blocks h)) store) there);
            }

    -- ---- all that is promised

    by_number : whole_outcome (answer_out p x store) ≡ whole_due p x store
    unfolding answer_out state_before
    by_number =
        answered whole_outcome (λ (k : Result ⊤ BlockAssemblyError). whole_by p x k (whole_told p x (whole_here p x))) (λ e. refl)
        (first_tests p x.bytes x.start (context_of p x.context) x.matrix (length x.samples) (length store) ++ neighbour_tests p (context_of p x.context) (around_due p q store))
        (refl, (refl, (refl, (refl, (refl, (refl, (refl, tt)))))))
        ∙ ap (checked (numbers_before p x.bytes x.start x.context x.matrix (length x.samples) store [])) (read_by whole_outcome (whole_told p x) (whole_said p x) x.bytes (λ a r. refl) (λ e. refl) (whole_here p x))

    module _ (r : Result PictureWholeDecoded BlockAssemblyError) (out st : List ℤ) (e : r ≡ answer_out p x store) (f : out ≡ samples_out p x store) (g : st ≡ store_out p x store) where
      module _ (fine : state ≡ Ok tt) where
        told_is : r ≡ whole_told p x (whole_here p x)
        unfolding answer_out
        told_is = e ∙ ap (λ (k : Result ⊤ BlockAssemblyError). whole_by p x k (whole_told p x (whole_here p x))) fine

        out-is : out ≡ samples_whole p x store (whole_here p x)
        unfolding samples_out
        out-is = f ∙ ap (λ (k : Result ⊤ BlockAssemblyError). kept_by k (samples_whole p x store (whole_here p x)) x.samples) fine

        store_is : st ≡ store_whole p x store (whole_here p x)
        unfolding store_out
        store_is = g ∙ ap (λ (k : Result ⊤ BlockAssemblyError). kept_by k (store_whole p x store (whole_here p x)) store) fine

        length-is : (n : ℕ) (c : Cursor) (counts : Spellings) (fs : HeaderFields) → c ≡ cursor_at (x.start + n)
            → ◌≡◌ {A = Result PictureWholeDecoded BlockAssemblyError} (Ok (record { bits = c.bit_pos - x.start; next = c; spellings = counts; picture = onward p; fields = fs })) (Ok (record { bits = n; next = cursor_at (x.start + n); spellings = counts; picture = onward p; fields = fs }))
        length-is n c counts fs k =
            let m : c.bit_pos - x.start ≡ n = let z = ap (λ (y : Cursor). y.bit_pos) k in omega arith in
            λ i. Ok (record { bits = m i; next = k i; spellings = counts; picture = onward p; fields = fs })

        -- depth and rounding are the picture's and the call's, whatever the header
        same-samples : (m : Whole) → samples_of_six (C.context_here p (behind x m.0)) (whole_values p x store m) ≡ samples_of_six (context_of p x.context) (whole_values p x store m)
        unfolding samples_of_six
        same-samples m = refl

        call : Call (read_whole dc_coded rev) x.bytes x.start (context_of p x.context) (whole_values p x store) (Accepted r) (Told p x r) x.samples out
        call = record {
          accepts = λ m u k. subst⁻¹ Accepted (told_is ∙ ap (whole_told p x) k) tt;
          refuses = λ n k a. subst Accepted (told_is ∙ ap (whole_told p x) k) a;
          tells = λ m u k n l. told_is ∙ ap (whole_told p x) k ∙ length-is n (after x.bytes u) (counts_in m.1) (fields_of q m.0) l;
          writes = λ m u k. out-is ∙ ap (samples_whole p x store) k ∙ ap (λ (v : List (List (List ℤ))). samples_after v x.samples) (same-samples m);
        }

        first : FirstFine p x.bytes x.start (context_of p x.context) x.matrix (length x.samples) (length store)
        first = before_first p x.bytes x.start (context_of p x.context) x.matrix (length x.samples) (length store) (around_due p q store) fine

        -- behind the header of a whole macroblock stands the sentence of its pattern
        module _ (m : Whole) (k : Begun p x m) where
          abbrev h : Header
          h = m.0

          tail : b ≡ header_bits h ▸ (macroblock_bits (pattern_in h) m.1 ▸ k.1.0)
          tail = k.1.1 ∙ append_assoc (header_bits h) (macroblock_bits (pattern_in h) m.1) k.1.0

          header_read : read_header b ≡ ok h (macroblock_bits (pattern_in h) m.1 ▸ k.1.0)
          header_read = ap read_header tail ∙ header_sentences.own h _ k.0.0

          begun_behind : I.Begun p (behind x h) store m.1
          begun_behind = (k.0.1, (k.1.0, sym (from_on x.bytes x.start (length (header_bits h))) ∙ ap (drop (length (header_bits h))) tail ∙ drop_at (header_bits h) _ (length (header_bits h)) refl))

          base : I.Promise p (behind x h) store (C.answer_told p x.bytes (x.start + length (header_bits h)) (blocks h)) out st
          base =
              let w = whole-behind (start-inside fine) h _ header_read in
              (whole p (behind x h) store (there fine h _ header_read) _ out st refl
              (out-is ∙ ap (samples_whole p x store) w ∙ samples-told fine h _ header_read (blocks h))
              (store_is ∙ ap (store_whole p x store) w ∙ store_told_lem fine h _ header_read (blocks h))).demand (there fine h _ header_read)

        promise : Promise p x store r out st
        promise = record {
          macroblock = demand (read_whole dc_coded rev) x.bytes x.start whole_bits (GoodHere p x) (whole_sentences dc_coded rev) (context_of p x.context) (whole_values p x store) (Accepted r) (Told p x r) x.samples out
              (start-inside fine) (depth-fine (context_of p x.context) x.matrix first.context)
              (λ m i l. turn-fine (C.context_here p (behind x m.0)) x.matrix (C.around_here p (behind x m.0) store) (rows_of dc_coded (pattern_in m.0) m.1) i l) first.roomy call;
          own = λ m k on a c i l. (base m k).own m.1 (begun_behind m k) on a c i l;
          earlier = λ m k on back a c l. (base m k).earlier m.1 (begun_behind m k) on back a c l;
        }

        -- what stopped the reader is told
        stopped-told : (y : Res Whole) → Stops y → Stopped (whole_told p x y)
        stopped-told (ok m u) k = k
        stopped-told (no n) k = k

        stopped-is : (m : Whole) → Broken p x m → Stopped r
        stopped-is m k = subst⁻¹ Stopped told_is (stopped-told (whole_here p x) (whole_cut_sentence dc_coded rev b m k))

      pub whole_answered : WholeAnswered p x store r out st
      whole_answered = record { answer = e; samples = f; store = g; demand = promise; outcome = ap whole_outcome e ∙ by_number; stopped = stopped-is }
