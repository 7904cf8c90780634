-- A call in a picture: its answer, samples and store, demand 3 and what is told where its sentence breaks off, by what the state and the reader say. Assumes nothing.
use mathlib.Core.Bool.{Bool}
use mathlib.Core.List.{List, ◌++◌}
use mathlib.Core.Path.{◌≡◌, ap, refl, subst, subst⁻¹, sym, ◌∙◌}
use Prim.Native.Nat.{ℕ, ◌+◌, ◌-◌, ◌*◌, ◌<◌, ◌≤◌}
use native.Mathlib.Omega.{arith}
use lib.IntN.{ℤ}
use lib.ListN.{length}
use Rattle.numbers.specs.Outcome.{checked}
use Rattle.bits.proofs.CursorLaws.{in_data_yes}
use Rattle.bits.specs.Cursor.{cursor_at}
use Rattle.bits.specs.declared.cursor.Cursor.{Cursor}
use Rattle.fields.specs.Answer.{after}
use Rattle.events.specs.declared.spelling.Spellings.{Spellings}
use Rattle.sentences.proofs.CountLaws.{counts_in}
use Rattle.sentences.proofs.Sentences.{macroblock_sentences}
use Rattle.sentences.specs.Macroblock.{GoodMacroblock, Parts, macroblock_bits}
use Rattle.sentences.specs.MacroblockReader.{read_macroblock}
use Rattle.fields.specs.Reader.{Res, no, ok}
use Rattle.fields.specs.Stopped.{Stops}
use Rattle.assembly.proofs.OutcomeLaws.{answered, read_by}
use Rattle.assembly.proofs.ContextLaws.{depth-fine}
use Rattle.block_reader.specs.Rows.{rows_of}
use Rattle.assembly.specs.declared.error.BlockAssemblyError.{BlockAssemblyError}
use Rattle.macroblock.proofs.DemandLaws.{Call, demand, read_of, stopped_of}
use Rattle.macroblock.specs.Answer.{kept_by, sentence_of}
use Rattle.headers.specs.Fields.{pattern_by}
use Rattle.record.proofs.RecordLaws.{read_back}
use Rattle.record.specs.Record.{known_of, record_at, stored_at}
use Rattle.picture_state.proofs.RingLaws.{earlier-kept, offset_on, slot_in}
use Rattle.picture.proofs.SerialLaws.{kept-is, turn-fine, up-sound}
use Rattle.picture_state.proofs.StateLaws.{FirstFine, state_first}
use Rattle.picture.specs.Answered.{Answered}
use Rattle.picture.specs.Call.{Input, answer_by, answer_out, answer_told, around_here, context_here, record_here, samples_out, samples_told, sentence_here, state_here, store_out, store_told, values_here}
use Rattle.picture.specs.InPicture.{Accepted, Begun, Promise, Stopped, Told, kept}
use Rattle.picture.specs.Outcomes.{call_due, call_numbers, call_said, picture_outcome}
use Rattle.picture_state.specs.Picture.{onward}
use Rattle.picture_state.specs.Ring.{offset}
use Rattle.picture_state.specs.State.{first_tests, later_tests, state_by}
use Rattle.picture_state.specs.declared.picture.Picture.{Picture}
use Rattle.std.specs.Prelude.{Err, Ok, Result, ⊤}
use Rattle.picture.specs.declared.call.PictureDecoded.{PictureDecoded}

module _ (p : Picture) (x : Input) (store : List ℤ) where
  abbrev dc_coded : Bool
  dc_coded = x.context.use_intra_dc_vlc

  abbrev rev : Bool
  rev = x.context.reversible_vlc

  abbrev pub samples_read : Res (List Parts) → List ℤ
  samples_read y = samples_told x.header dc_coded (context_here p x) x.matrix (around_here p x store) y x.samples

  abbrev pub store_read : Res (List Parts) → List ℤ
  store_read y = store_told p x.header dc_coded (context_here p x) x.matrix (around_here p x store) y store

  -- the answer by number
  by_number : {r : Result PictureDecoded BlockAssemblyError} → r ≡ answer_out p x store → picture_outcome r ≡ call_due p x store
  unfolding answer_out state_by
  by_number e =
      ap picture_outcome e
      ∙ answered picture_outcome (λ (k : Result ⊤ BlockAssemblyError). answer_by k (answer_told p x.bytes x.start (sentence_here p x))) (λ e. refl)
      (first_tests p x.bytes x.start (context_here p x) x.matrix (length x.samples) (length store) ++ later_tests p x.header (context_here p x) (around_here p x store))
      (refl, (refl, (refl, (refl, (refl, (refl, (refl, (refl, (refl, tt)))))))))
      ∙ ap (checked (call_numbers p x store)) (read_by picture_outcome (answer_told p x.bytes x.start) (call_said p x store) x.bytes (λ a r. refl) (λ e. refl) (sentence_here p x))

  pub refused : {e : BlockAssemblyError} → state_here p x store ≡ Err e → Answered p x store (Err e) x.samples store
  unfolding answer_out samples_out store_out
  refused {e} q =
      let a = sym (ap (λ (s : Result ⊤ BlockAssemblyError). answer_by s (answer_told p x.bytes x.start (sentence_here p x))) q) in record {
        answer = a;
        samples = sym (ap (λ (s : Result ⊤ BlockAssemblyError). kept_by s (samples_read (sentence_here p x)) x.samples) q);
        store = sym (ap (λ (s : Result ⊤ BlockAssemblyError). kept_by s (store_read (sentence_here p x)) store) q);
        demand = λ f. absurd (let z : ◌≡◌ {A = ℕ} 0 1 = cc in omega arith);
        outcome = by_number a;
        stopped = λ f. absurd (let z : ◌≡◌ {A = ℕ} 0 1 = cc in omega arith);
      }

  module _ (q : state_here p x store ≡ Ok tt) (r : Result PictureDecoded BlockAssemblyError) (out st : List ℤ)
      (e : r ≡ answer_told p x.bytes x.start (sentence_here p x)) (f : out ≡ samples_read (sentence_here p x)) (g : st ≡ store_read (sentence_here p x)) where
    fine : FirstFine p x.bytes x.start (context_here p x) x.matrix (length x.samples) (length store)
    fine = state_first p x.bytes x.start (context_here p x) x.matrix (length x.samples) (length store) x.header (around_here p x store) q

    length-is : (n : ℕ) (c : Cursor) (counts : Spellings) → c ≡ cursor_at (x.start + n)
        → ◌≡◌ {A = Result PictureDecoded BlockAssemblyError} (Ok (record { bits = c.bit_pos - x.start; next = c; spellings = counts; picture = onward p })) (Ok (record { bits = n; next = cursor_at (x.start + n); spellings = counts; picture = onward p }))
    length-is n c counts k =
        let m : c.bit_pos - x.start ≡ n = let z = ap (λ (y : Cursor). y.bit_pos) k in omega arith in
        λ i. Ok (record { bits = m i; next = k i; spellings = counts; picture = onward p })

    call : Call (read_macroblock dc_coded rev (pattern_by x.header)) x.bytes x.start (context_here p x) (values_here x.header dc_coded (context_here p x) x.matrix (around_here p x store)) (Accepted r) (Told p x.start r) x.samples out
    unfolding sentence_of
    call = record {
      accepts = λ s b k. subst⁻¹ Accepted (e ∙ ap (answer_told p x.bytes x.start) k) tt;
      refuses = λ n k a. subst Accepted (e ∙ ap (answer_told p x.bytes x.start) k) a;
      tells = λ s b k n m. e ∙ ap (answer_told p x.bytes x.start) k ∙ length-is n (after x.bytes b) (counts_in s) m;
      writes = λ s b k. f ∙ ap samples_read k;
    }

    -- the record of a sentence
    abbrev record_of_lem : List Parts → List ℤ
    record_of_lem s = record_here x.header dc_coded (context_here p x) x.matrix (around_here p x store) s

    long : (s : List Parts) → length (record_of_lem s) ≡ 91
    long s = (up-sound (context_here p x) x.matrix (around_here p x store) (rows_of dc_coded (pattern_by x.header) s) fine.context 6 (omega arith)).long

    stored_is : (s : List Parts) → Begun p x store s → st ≡ stored_at store (offset p.width p.accepted 0) (record_of_lem s)
    unfolding sentence_of
    stored_is s b = g ∙ ap store_read (read_of x.bytes x.start dc_coded rev (pattern_by x.header) s b)

    own_is : (s : List Parts) → Begun p x store s → (on : ℕ) → 1 ≤ on → on ≤ p.width + 1 → (i : ℕ) → i < 6
        → known_of (record_at st (offset p.width (p.accepted + on) on)) i ≡ kept p x store s i
    own_is s b on m n i l =
        let a = slot_in p.width (p.accepted + 2 * p.width - 0) (length store) fine.size.w_low fine.long in
        ap (λ (k : ℕ). known_of (record_at st k) i) (offset_on p.width p.accepted on on 0 (omega arith))
        ∙ ap (λ (y : List ℤ). known_of (record_at y (offset p.width p.accepted 0)) i) (stored_is s b)
        ∙ ap (λ (y : List ℤ). known_of y i) (read_back store (offset p.width p.accepted 0) (record_of_lem s) (omega arith) (long s))
        ∙ kept-is (context_here p x) x.matrix (around_here p x store) (rows_of dc_coded (pattern_by x.header) s) fine.context i l

    earlier-is : (s : List Parts) → Begun p x store s → (on back : ℕ) → 1 ≤ on → on < back → back ≤ p.width + 1
        → record_at st (offset p.width (p.accepted + on) back) ≡ record_at store (offset p.width (p.accepted + on) back)
    earlier-is s b on back m l h =
        let e = offset_on p.width p.accepted on back (back - on) (omega arith) in
        ap (record_at st) e
        ∙ ap (λ (y : List ℤ). record_at y (offset p.width p.accepted (back - on))) (stored_is s b)
        ∙ earlier-kept p.width p.accepted (back - on) store (record_of_lem s) fine.size.w_low fine.long (long s) (omega arith) (let k = fine.size.w_low in omega arith)
        ∙ sym (ap (record_at store) e)

    promise : Promise p x store r out st
    promise = record {
      macroblock = demand (read_macroblock dc_coded rev (pattern_by x.header)) x.bytes x.start (macroblock_bits (pattern_by x.header)) (GoodMacroblock dc_coded rev (pattern_by x.header)) (macroblock_sentences dc_coded rev (pattern_by x.header)) (context_here p x) (values_here x.header dc_coded (context_here p x) x.matrix (around_here p x store)) (Accepted r) (Told p x.start r) x.samples out
          (in_data_yes (length x.bytes) x.start fine.inside).1 (depth-fine (context_here p x) x.matrix fine.context)
          (λ s i l. turn-fine (context_here p x) x.matrix (around_here p x store) (rows_of dc_coded (pattern_by x.header) s) i l) fine.roomy call;
      own = own_is;
      earlier = earlier-is;
    }

    -- what stopped the reader is told
    stopped-told : (y : Res (List Parts)) → Stops y → Stopped (answer_told p x.bytes x.start y)
    stopped-told (ok s b) k = k
    stopped-told (no n) k = k

    pub whole : Answered p x store r out st
    unfolding answer_out samples_out store_out sentence_of
    whole =
        let a = e ∙ sym (ap (λ (s : Result ⊤ BlockAssemblyError). answer_by s (answer_told p x.bytes x.start (sentence_here p x))) q) in record {
          answer = a;
          samples = f ∙ sym (ap (λ (s : Result ⊤ BlockAssemblyError). kept_by s (samples_read (sentence_here p x)) x.samples) q);
          store = g ∙ sym (ap (λ (s : Result ⊤ BlockAssemblyError). kept_by s (store_read (sentence_here p x)) store) q);
          demand = λ _. promise;
          outcome = by_number a;
          stopped = λ _ s b. subst⁻¹ Stopped e (stopped-told (sentence_here p x) (stopped_of x.bytes x.start dc_coded rev (pattern_by x.header) s b));
        }
