-- A whole macroblock read alone: all that is promised, by what the state and the reader say; where its header is read, it is the macroblock behind it. Assumes nothing.
use mathlib.Core.Bool.{Bool, cond, true}
use mathlib.Core.List.{List, [], ◌++◌, ◌∷◌}
use mathlib.Core.Path.{◌≡◌, ap, ap₂, refl, subst, subst⁻¹, sym, ◌∙◌}
use Prim.Native.Nat.{ℕ, ◌+◌, ◌-◌, ◌≤◌}
use native.Mathlib.Omega.{arith}
use lib.Dec.{leb}
use lib.IntN.{ℤ}
use lib.ListN.{length}
use borrow.Author.Tests.{le-leb}
use Rattle.numbers.specs.Outcome.{checked}
use Rattle.bits.proofs.CursorLaws.{in_data_by, in_data_yes}
use Rattle.bits.specs.Bits.{bits_from}
use Rattle.bits.specs.Cursor.{cursor_at, in_data}
use Rattle.bits.specs.declared.cursor.Cursor.{Cursor}
use Rattle.coefficients.specs.Level.{predictors_fine}
use Rattle.prediction.specs.declared.predictor.BlockPredictors.{BlockPredictors}
use Rattle.samples.specs.Samples.{samples_after}
use Rattle.fields.specs.Answer.{after}
use Rattle.events.specs.declared.spelling.Spellings.{Spellings}
use Rattle.sentences.proofs.CountLaws.{counts_in}
use Rattle.sentences.proofs.Sentences.{macroblock_sentences}
use Rattle.sentences.specs.Macroblock.{Parts}
use Rattle.fields.specs.Reader.{Res, bind, no, ok}
use Rattle.fields.specs.Stopped.{Stops}
use Rattle.assembly.proofs.ContextLaws.{depth-fine, quantiser-fine}
use Rattle.assembly.proofs.OutcomeLaws.{answered, read_by}
use Rattle.assembly.specs.Answer.{tests_of}
use Rattle.assembly.specs.Values.{context_fine}
use Rattle.assembly.specs.declared.context.MacroblockTextureContext.{MacroblockTextureContext}
use Rattle.assembly.specs.declared.error.BlockAssemblyError.{BlockAssemblyError}
use Rattle.assembly.specs.declared.error.BlockAssemblyError.TheVariants.{Context, OutOfRange, Predictor, TooShort}
use Rattle.block_reader.specs.Rows.{rows_of}
use Rattle.headers.proofs.AnswerLaws.{HeaderIs, header_is, header-not, header_read}
use Rattle.headers.proofs.HeaderLaws.{context-fine, header-checked}
use Rattle.headers.specs.Answer.{header_answer, header_told}
use Rattle.headers.specs.Fields.{context_with, fields_of, header_of, pattern_in}
use Rattle.headers.specs.Header.{Header, header_bits}
use Rattle.headers.specs.HeaderReader.{read_header}
use Rattle.headers.specs.declared.parse.HeaderFields.{HeaderFields}
use Rattle.macroblock.proofs.DemandLaws.{Call, demand}
use Rattle.macroblock.proofs.SixLaws.{values_six_fine}
use Rattle.macroblock.proofs.StateLaws.{StateFine, room_fine, state-after}
use Rattle.macroblock.proofs.WholeLaws.{behind-decoded, behind_forward, behind-refused, behind-samples, whole-behind, whole_cut_sentence, whole-not, whole_sentences}
use Rattle.macroblock.specs.Answer as A
use Rattle.macroblock.specs.Answer.{kept_by, macroblock_answer, room_of, samples_told, sentence_of, state_of, told}
use Rattle.macroblock.specs.Six.{samples_of_six}
use Rattle.macroblock.specs.Whole.{GoodWhole, Whole, whole_bits}
use Rattle.macroblock.specs.WholeAnswer.{Accepted, Stopped, Told, WholeAnswered, context_in, room_here, samples_out, samples_whole, values_whole, whole_answer, whole_by, whole_due, whole_of, whole_outcome, whole_said, whole_told, with_header}
use Rattle.macroblock.specs.WholeReader.{read_whole}
use Rattle.std.specs.Prelude.{Err, Ok, Result, ⊤}
use Rattle.macroblock.specs.declared.decode.MacroblockDecoded.{MacroblockDecoded}
use Rattle.macroblock.specs.declared.whole.WholeDecoded.{WholeDecoded}

-- ---- the state behind a header is fine

-- all tests pass
room_of_lem : (d : List ℕ) (at : ℕ) (x : MacroblockTextureContext) (p : BlockPredictors) (w : List (List ℕ)) (room : ℕ) → StateFine d at x p w room → room_of d at x p w room ≡ Ok tt
unfolding room_of
room_of_lem d at x p w room f =
    ap₂ (λ (a b : Bool). tests a b (predictors_fine p) (leb 384 room)) f.inside f.context ∙ ap₂ (tests true true) f.predictors (le-leb 384 room f.roomy)
  where
    tests : Bool → Bool → Bool → Bool → Result ⊤ BlockAssemblyError
    tests a b c e = cond a (cond b (cond c (cond e (Ok tt) (Err TooShort)) (Err Predictor)) (Err Context)) (Err OutOfRange)

pub state-behind : (d : List ℕ) (at : ℕ) (x : MacroblockTextureContext) (p : BlockPredictors) (w : List (List ℕ)) (room : ℕ) → room_of d at x p w room ≡ Ok tt
    → {fs : HeaderFields} {next : Cursor} (k : HeaderIs d at x.quantiser_scale fs next) → state_of d next.bit_pos (header_of k.header) (context_in x k.header) p w room ≡ Ok tt
state-behind d at x p w room q {fs} {next} k =
    let f = room_fine d at x p w room q in
    let g : StateFine d next.bit_pos (context_in x k.header) p w room = record {
      inside = in_data_by (length d) next.bit_pos (in_data_yes (length d) at f.inside).0 k.inside;
      context = context-fine x w k.header f.context;
      predictors = f.predictors;
      roomy = f.roomy;
    } in
    state-after d next.bit_pos (header_of k.header) (context_in x k.header) p w room (room_of_lem d next.bit_pos (context_in x k.header) p w room g) ∙ header-checked k.header

-- ---- all that is promised

module _ (d : List ℕ) (at : ℕ) (dc_coded rev : Bool) (x : MacroblockTextureContext) (p : BlockPredictors) (w : List (List ℕ)) (old : List ℤ) where
  abbrev q : ℕ
  q = x.quantiser_scale

  abbrev read : Res Whole
  read = whole_of d at dc_coded rev

  abbrev room : Result ⊤ BlockAssemblyError
  room = room_here d at dc_coded rev x p w old

  -- the answer by number
  by_number : {r : Result WholeDecoded BlockAssemblyError} → r ≡ whole_answer d at dc_coded rev x p w old → whole_outcome r ≡ whole_due d at dc_coded rev x p w old
  unfolding whole_answer room_of
  by_number e =
      ap whole_outcome e
      ∙ answered whole_outcome (λ (k : Result ⊤ BlockAssemblyError). whole_by k (whole_told d at q read)) (λ e. refl) (tests_of d at x p w ++ ((leb 384 (length old), TooShort) ∷ [])) (refl, (refl, (refl, (refl, tt))))
      ∙ ap (checked ((in_data (length d) at, 11) ∷ (context_fine x w, 12) ∷ (predictors_fine p, 13) ∷ (leb 384 (length old), 14) ∷ []))
      (read_by whole_outcome (whole_told d at q) (whole_said at q) d (λ a r. refl) (λ e. refl) read)

  pub whole-refused : {e : BlockAssemblyError} → room ≡ Err e → WholeAnswered d at dc_coded rev x p w old (Err e) old
  unfolding whole_answer samples_out
  whole-refused {e} f =
      let a = sym (ap (λ (s : Result ⊤ BlockAssemblyError). whole_by s (whole_told d at q read)) f) in record {
        answer = a;
        samples = sym (ap (λ (s : Result ⊤ BlockAssemblyError). kept_by s (samples_whole dc_coded x p w read old) old) f);
        demand = λ g. absurd (let z : ◌≡◌ {A = ℕ} 0 1 = cc in omega arith);
        outcome = by_number a;
        stopped = λ g. absurd (let z : ◌≡◌ {A = ℕ} 0 1 = cc in omega arith);
      }

  module _ (f : room ≡ Ok tt) (r : Result WholeDecoded BlockAssemblyError) (out : List ℤ) (e : r ≡ whole_told d at q read) (g : out ≡ samples_whole dc_coded x p w read old) where
    fine : StateFine d at x p w (length old)
    fine = room_fine d at x p w (length old) f

    length-is : (n : ℕ) (c : Cursor) (k : Spellings) (fs : HeaderFields) → c ≡ cursor_at (at + n) → ◌≡◌ {A = Result WholeDecoded BlockAssemblyError} (Ok (record { bits = c.bit_pos - at; next = c; spellings = k; fields = fs })) (Ok (record { bits = n; next = cursor_at (at + n); spellings = k; fields = fs }))
    length-is n c counts fs h =
        let k : c.bit_pos - at ≡ n = let m = ap (λ (y : Cursor). y.bit_pos) h in omega arith in
        ap₂ (λ (m : ℕ) (y : Cursor). Ok (record { bits = m; next = y; spellings = counts; fields = fs })) k h

    -- depth and rounding are the context's, whatever the header
    same-samples : (m : Whole) → samples_of_six (context_in x m.0) (values_whole dc_coded x p w m) ≡ samples_of_six x (values_whole dc_coded x p w m)
    unfolding samples_of_six
    same-samples m = refl

    call : Call (read_whole dc_coded rev) d at x (values_whole dc_coded x p w) (Accepted r) (Told at q r) old out
    unfolding whole_of
    call = record {
      accepts = λ s b h. subst⁻¹ Accepted (e ∙ ap (whole_told d at q) h) tt;
      refuses = λ n h a. subst Accepted (e ∙ ap (whole_told d at q) h) a;
      tells = λ m b h n k. e ∙ ap (whole_told d at q) h ∙ length-is n (after d b) (counts_in m.1) (fields_of q m.0) k;
      writes = λ m b h. g ∙ ap (λ (y : Res Whole). samples_whole dc_coded x p w y old) h ∙ ap (λ (v : List (List (List ℤ))). samples_after v old) (same-samples m);
    }

    -- what stopped the reader is told
    stopped-told : (y : Res Whole) → Stops y → Stopped (whole_told d at q y)
    stopped-told (ok m b) k = k
    stopped-told (no n) k = k

    pub whole_answered : WholeAnswered d at dc_coded rev x p w old r out
    unfolding whole_answer samples_out whole_of
    whole_answered =
        let a = e ∙ sym (ap (λ (s : Result ⊤ BlockAssemblyError). whole_by s (whole_told d at q read)) f) in record {
          answer = a;
          samples = g ∙ sym (ap (λ (s : Result ⊤ BlockAssemblyError). kept_by s (samples_whole dc_coded x p w read old) old) f);
          demand = λ _. demand (read_whole dc_coded rev) d at whole_bits (GoodWhole dc_coded rev) (whole_sentences dc_coded rev) x (values_whole dc_coded x p w) (Accepted r) (Told at q r) old out
              (in_data_yes (length d) at fine.inside).1 (depth-fine x w fine.context) (λ m i l. values_six_fine (context_in x m.0) p w (rows_of dc_coded (pattern_in m.0) m.1) i l) fine.roomy call;
          outcome = by_number a;
          stopped = λ _ m b. subst⁻¹ Stopped e (stopped-told read (whole_cut_sentence dc_coded rev _ m b));
        }

-- ---- the header, once the state is fine

pub header_asked : (d : List ℕ) (at : ℕ) (x : MacroblockTextureContext) (p : BlockPredictors) (w : List (List ℕ)) (room : ℕ) → room_of d at x p w room ≡ Ok tt
    → header_answer d at x.quantiser_scale ≡ header_told d x.quantiser_scale (read_header (bits_from d at))
header_asked d at x p w room f = let g = room_fine d at x p w room f in header_read d at x.quantiser_scale g.inside (quantiser-fine x w g.context)

pub header_refused : (d : List ℕ) (at : ℕ) (dc_coded rev : Bool) (x : MacroblockTextureContext) (p : BlockPredictors) (w : List (List ℕ)) (old : List ℤ) → room_of d at x p w (length old) ≡ Ok tt
    → (r : Result (HeaderFields × Cursor) BlockAssemblyError) → r ≡ header_told d x.quantiser_scale (read_header (bits_from d at)) → {n : BlockAssemblyError} → r ≡ Err n → WholeAnswered d at dc_coded rev x p w old (Err n) old
header_refused d at dc_coded rev x p w old f r e {n} k =
    let g = room_fine d at x p w (length old) f in
    let y = header-not d at x.quantiser_scale (in_data_yes (length d) at g.inside).1 r e k in
    let z = whole-not dc_coded rev d at y.1.0 in
    whole_answered d at dc_coded rev x p w old f (Err n) old (ap Err y.1.1 ∙ sym (ap (whole_told d at x.quantiser_scale) z)) (sym (ap (λ (m : Res Whole). samples_whole dc_coded x p w m old) z))

-- ---- behind a header that was read, as the code goes on

module _ (d : List ℕ) (at : ℕ) (dc_coded rev : Bool) (x : MacroblockTextureContext) (p : BlockPredictors) (w : List (List ℕ)) (old : List ℤ) (f : room_of d at x p w (length old) ≡ Ok tt)
    (fs : HeaderFields) (next : Cursor) (e : Ok (fs, next) ≡ header_told d x.quantiser_scale (read_header (bits_from d at))) (y : MacroblockTextureContext) (g : y ≡ context_with fs x) where
  abbrev is : HeaderIs d at x.quantiser_scale fs next
  is = header_is d at x.quantiser_scale (in_data_yes (length d) at (room_fine d at x p w (length old) f).inside).1 (Ok (fs, next)) e refl

  pub behind-fine : state_of d next.bit_pos fs.header y p w (length old) ≡ Ok tt
  behind-fine =
      ap (λ (z : MacroblockTextureContext). state_of d next.bit_pos fs.header z p w (length old)) g
      ∙ ap (λ (z : HeaderFields). state_of d next.bit_pos z.header (context_with z x) p w (length old)) is.says
      ∙ state-behind d at x p w (length old) f is

  module _ (r : Result MacroblockDecoded BlockAssemblyError) (a : r ≡ told d next.bit_pos (sentence_of d next.bit_pos fs.header dc_coded rev)) where
    as_read : r ≡ told d next.bit_pos (sentence_of d next.bit_pos (header_of is.header) dc_coded rev)
    as_read = a ∙ ap (λ (z : HeaderFields). told d next.bit_pos (sentence_of d next.bit_pos z.header dc_coded rev)) is.says

    pub then_refused : {n : BlockAssemblyError} → r ≡ Err n → Err n ≡ whole_told d at x.quantiser_scale (whole_of d at dc_coded rev)
    then_refused b = behind-refused dc_coded rev d at x.quantiser_scale fs next is r as_read b

    module _ {n : ℕ} {c : Cursor} {k : Spellings} (b : r ≡ Ok (record { bits = n; next = c; spellings = k })) where
      pub then_decoded : Ok (record { bits = c.bit_pos - at; next = c; spellings = k; fields = fs }) ≡ whole_told d at x.quantiser_scale (whole_of d at dc_coded rev)
      then_decoded = behind-decoded dc_coded rev d at x.quantiser_scale fs next is r as_read b

      pub then_forward : at ≤ c.bit_pos
      then_forward = behind_forward dc_coded rev d at x.quantiser_scale fs next is r as_read b

  pub then_samples : (out : List ℤ) → out ≡ samples_told fs.header dc_coded y p w (sentence_of d next.bit_pos fs.header dc_coded rev) old → out ≡ samples_whole dc_coded x p w (whole_of d at dc_coded rev) old
  then_samples out a =
      behind-samples dc_coded rev d at x.quantiser_scale fs next is x refl p w old out
      (a
      ∙ ap (λ (z : MacroblockTextureContext). samples_told fs.header dc_coded z p w (sentence_of d next.bit_pos fs.header dc_coded rev) old) g
      ∙ ap (λ (z : HeaderFields). samples_told z.header dc_coded (context_with z x) p w (sentence_of d next.bit_pos z.header dc_coded rev) old) is.says)

-- ---- where the header is read, answer and samples are those of the macroblock behind it, with the header's bits more

module _ (d : List ℕ) (at : ℕ) (dc_coded rev : Bool) (x : MacroblockTextureContext) (p : BlockPredictors) (w : List (List ℕ)) (old : List ℤ) (f : room_of d at x p w (length old) ≡ Ok tt)
    (fs : HeaderFields) (next : Cursor) (k : HeaderIs d at x.quantiser_scale fs next) where
  abbrev h : Header
  h = k.header

  abbrev n : ℕ
  n = length (header_bits h)

  abbrev blocks : Res (List Parts)
  blocks = sentence_of d next.bit_pos (header_of h) dc_coded rev

  pub record Behind : Type 0 where
    pub answer : whole_answer d at dc_coded rev x p w old ≡ with_header n fs (macroblock_answer d next.bit_pos (header_of h) dc_coded rev (context_in x h) p w old)
    pub samples : samples_out d at dc_coded rev x p w old ≡ A.samples_out d next.bit_pos (header_of h) dc_coded rev (context_in x h) p w old

  there : state_of d next.bit_pos (header_of h) (context_in x h) p w (length old) ≡ Ok tt
  there = state-behind d at x p w (length old) f k

  front : (y : Res (List Parts)) → blocks ≡ y → whole_told d at x.quantiser_scale (bind y (λ s r. ok (h, s) r)) ≡ with_header n fs (told d next.bit_pos y)
  unfolding sentence_of
  front (ok s u) e =
      let a = ap (λ (c : Cursor). c.bit_pos) ((macroblock_sentences dc_coded rev (pattern_in h)).position d next.bit_pos k.inside s u e) in
      let b = ap (λ (c : Cursor). c.bit_pos) k.place in
      let j : (after d u).bit_pos - at ≡ n + ((after d u).bit_pos - next.bit_pos) = omega arith in
      ap₂ (λ (i : ℕ) (z : HeaderFields). Ok (record { bits = i; next = after d u; spellings = counts_in s; fields = z })) j (sym k.says)
  front (no m) e = refl

  pub with_header_is : Behind
  unfolding whole_answer samples_out macroblock_answer A.samples_out
  with_header_is =
      let b = whole-behind dc_coded rev d at x.quantiser_scale fs next k in record {
        answer = ap (λ (c : Result ⊤ BlockAssemblyError). whole_by c (whole_told d at x.quantiser_scale (whole_of d at dc_coded rev))) f ∙ ap (whole_told d at x.quantiser_scale) b ∙ front blocks refl
            ∙ sym (ap (λ (c : Result ⊤ BlockAssemblyError). with_header n fs (A.answer_by c (told d next.bit_pos blocks))) there);
        samples = ap (λ (c : Result ⊤ BlockAssemblyError). kept_by c (samples_whole dc_coded x p w (whole_of d at dc_coded rev) old) old) f
            ∙ sym (behind-samples dc_coded rev d at x.quantiser_scale fs next k x refl p w old _ refl)
            ∙ sym (ap (λ (c : Result ⊤ BlockAssemblyError). kept_by c (samples_told (header_of h) dc_coded (context_in x h) p w blocks old) old) there);
      }
