-- A call on the picture and the store that an ideal picture stands for is told what the ideal is told, and leaves what the ideal then stands for. Assumes nothing.
use mathlib.Core.Bool.{Bool, cond, false, true}
use mathlib.Core.List.{List, [], ◌++◌, ◌∷◌}
use mathlib.Core.Path.{◌≡◌, ap, ap₂, refl, subst, subst₂, sym, ◌∙◌}
use Prim.Native.Nat.{ℕ, ◌*◌, ◌-◌, ◌≤◌}
use native.Mathlib.Omega.{arith}
use lib.Dec.{leb, ltb}
use lib.IntN.{ℤ}
use lib.ListN.{length}
use borrow.Author.Tests.{leb-true}
use Rattle.bits.specs.Cursor.{in_data}
use Rattle.samples.specs.Samples.{samples_after}
use Rattle.sentences.specs.Macroblock.{Parts}
use Rattle.fields.specs.Reader.{Res, no, ok}
use Rattle.assembly.proofs.TestLaws.{all_pass}
use Rattle.assembly.proofs.ContextLaws.{quantiser-fine}
use Rattle.assembly.specs.Values.{context_fine}
use Rattle.assembly.specs.declared.context.MacroblockTextureContext.{MacroblockTextureContext}
use Rattle.assembly.specs.declared.error.BlockAssemblyError.TheVariants.{Complete, Context, OutOfRange, Predictor, TooShort}
use Rattle.macroblock.specs.Answer.{kept_by}
use Rattle.headers.specs.Fields.{fields_of, header_check, record_by}
use Rattle.headers.specs.Header.{Header, header_bits}
use Rattle.headers.specs.declared.parse.HeaderFields.{HeaderFields}
use Rattle.macroblock.specs.Six.{samples_of_six}
use Rattle.record.proofs.RecordLaws.{stored_length}
use Rattle.neighbours.proofs.SoundLaws.{around_fine, blank-sound}
use Rattle.neighbours.specs.Neighbours.{Around, neighbours_fine}
use Rattle.record.specs.Record.{blank, stored_at}
use Rattle.picture_state.proofs.RingLaws.{offset-is, slot}
use Rattle.picture_state.proofs.StateLaws.{sized}
use Rattle.picture.specs.Call.{Input, answer_by, answer_out, answer_told, answer_with, around_here, context_here, given, record_here, samples_out, samples_told, samples_with, sentence_here, state_here, store_out, store_told, store_with}
use Rattle.picture.proofs.WholeLaws.{whole-not, with_header_is}
use Rattle.picture.specs.Whole as W
use Rattle.picture.specs.Whole.{Bare, state_bare}
use Rattle.picture_state.specs.Picture.{context_of, onward, picture_of, size_fine}
use Rattle.picture_state.specs.Ring.{around_due, offset}
use Rattle.picture_state.specs.State.{state_before, state_by}
use Rattle.std.specs.Prelude.{Err, Ok, Result, ⊤}
use Rattle.assembly.specs.declared.error.BlockAssemblyError.{BlockAssemblyError}
use Rattle.picture.specs.declared.call.PictureDecoded.{PictureDecoded}
use Rattle.picture.specs.declared.whole.PictureWholeDecoded.{PictureWholeDecoded}
use Rattle.picture_state.specs.declared.picture.Picture.{Picture}
use Rattle.history.proofs.Blocks.{Agrees, Gives, agrees_sound, record_gives, values_same}
use Rattle.history.proofs.Longer.{longer}
use Rattle.history.proofs.Places.{Kept, around_agrees, kept_more}
use Rattle.history.specs.History.{State, next, picture_after, picture_after_whole, told}
use Rattle.history.specs.Ideal.{Ideal, added_to, around_in, bare_state, header_here, ideal, ideal_state, ideal_tests, onward_bare, onward_from, picture_now, rows_here, samples_ideal, told_bare}
use Rattle.history.specs.Remembered.{Remembered, remembered}
use Rattle.history.specs.Step.{decoded, handed, in_bits, whole_decoded}

-- a state and the ideal picture that it stands for, on a store of `room` numbers
pub record Stands (room : ℕ) (s : State) (i : Ideal) : Type 0 where
  pub picture : s.picture ≡ picture_now i
  pub size : size_fine i.width i.height ≡ true
  pub long : length s.store ≡ room
  pub kept : 192 * i.width ≤ room → Kept i.width s.store i.accepted

module _ (i : Ideal) (s : List ℤ) (size : size_fine i.width i.height ≡ true) (kept : 192 * i.width ≤ length s → Kept i.width s i.accepted) (x : Input) where
  abbrev p : Picture
  p = picture_now i

  abbrev q : ℕ
  q = x.context.quantiser_scale

  abbrev n : ℕ
  n = length i.accepted

  abbrev context : MacroblockTextureContext
  context = context_here p x

  abbrev ar : Around
  ar = around_here p x s

  wide : 1 ≤ i.width
  wide = (sized i.width i.height size).w_low

  agrees : 192 * i.width ≤ length s → Agrees ar (around_in i)
  agrees l = around_agrees i s wide (kept l) q

  -- ---- the checks

  -- refusal 13 does not arise
  pub neighbours : context_fine context x.matrix ≡ true → leb (192 * i.width) (length s) ≡ true → neighbours_fine i.depth q ar (blank q) ≡ true
  neighbours c l =
      let f = quantiser-fine context x.matrix c in
      around_fine i.depth q ar (blank q) f (agrees_sound (agrees (leb-true (192 * i.width) (length s) l))) (blank-sound q f)

  abbrev full : Bool → Bool → Bool → Bool → Bool → Bool → Bool → Result ⊤ BlockAssemblyError
  full a b c e f g t =
      cond a (cond b (cond c (cond e (cond f (cond g (cond t (header_check x.header) (Err Predictor)) (Err Complete)) (Err TooShort)) (Err TooShort)) (Err Context)) (Err OutOfRange)) (Err OutOfRange)

  passes : (b c e f g t : Bool) → (c ≡ true → f ≡ true → t ≡ true) → full true b c e f g t ≡ full true b c e f g true
  passes b true e true g t k = ap (full true b true e true g) (k refl refl)
  passes b true e false g t k = refl
  passes b false e f g t k = refl

  state-is : state_here p x s ≡ ideal_state (length s) i x
  unfolding state_by ideal_state
  state-is =
      let b = in_data (length x.bytes) x.start in
      let c = context_fine context x.matrix in
      let e = leb 384 (length x.samples) in
      let f = leb (192 * i.width) (length s) in
      let g = ltb n (i.width * i.height) in
      let t = neighbours_fine i.depth q ar (blank q) in
      ap (λ (a : Bool). full a b c e f g t) size ∙ passes b c e f g t neighbours

  -- where all pass, what is taken of the store agrees with the list
  record Passed : Type 0 where
    fine : context_fine context x.matrix ≡ true
    agree : Agrees ar (around_in i)

  passed : ideal_state (length s) i x ≡ Ok tt → Passed
  unfolding ideal_state
  passed e =
      let t = all_pass (ideal_tests (length s) i x) e in
      record { fine = t.1.0; agree = agrees (leb-true (192 * i.width) (length s) t.1.1.1.0) }

  -- ---- what it is told

  abbrev samples_by : Result ⊤ BlockAssemblyError → Res (List Parts) → List ℤ
  samples_by st y = kept_by st (samples_told x.header x.context.use_intra_dc_vlc context x.matrix ar y x.samples) x.samples

  samples_by_lem : (st : Result ⊤ BlockAssemblyError) (y : Res (List Parts)) → ideal_state (length s) i x ≡ st → samples_by st y ≡ kept_by st (samples_ideal (length s) i x y) x.samples
  samples_by_lem (Err e) y f = refl
  samples_by_lem (Ok tt) (no e) f = refl
  samples_by_lem (Ok tt) (ok t r) f =
      let g = passed f in
      ap (λ (v : List (List (List ℤ))). samples_after (samples_of_six context v) x.samples) (values_same context x.matrix ar (around_in i) (rows_here (length s) i x t) g.fine g.agree)

  pub answer-is : answer_out p x s ≡ answer_with p x (ideal_state (length s) i x)
  unfolding answer_out
  answer-is = ap (answer_with p x) state-is

  pub samples-is : samples_out p x s ≡ kept_by (ideal_state (length s) i x) (samples_ideal (length s) i x (sentence_here p x)) x.samples
  unfolding samples_out
  samples-is = ap (λ (st : Result ⊤ BlockAssemblyError). samples_with p x st ar) state-is ∙ samples_by_lem (ideal_state (length s) i x) (sentence_here p x) refl

  pub told_is : told (record { picture = p; store = s }) (handed x) ≡ ideal (length s) i x
  unfolding ideal
  told_is = ap₂ decoded answer-is samples-is

  -- ---- what it leaves

  abbrev recorded : List Parts → List ℤ
  recorded y = record_here x.header x.context.use_intra_dc_vlc context x.matrix ar y

  -- the ideal picture with a list
  abbrev with_list : List Remembered → Ideal
  with_list ms = record { width = i.width; height = i.height; depth = i.depth; method = i.method; accepted = ms }

  added : (t : List Parts) (m : Remembered) → Gives (recorded t) m
      → Stands (length s) (record { picture = onward p; store = stored_at s (offset i.width n 0) (recorded t) }) (with_list (i.accepted ++ (m ∷ [])))
  added t m g =
      let z : n - 0 ≡ n = omega arith in
      let o : offset i.width n 0 ≡ slot i.width n * 96 = offset-is i.width n 0 (omega arith) ∙ ap (λ (j : ℕ). slot i.width j * 96) z in
      record {
        picture = ap (picture_of i.width i.height i.depth i.method) (sym (longer i.accepted m));
        size = size;
        long = stored_length s (offset i.width n 0) (recorded t) g.sound.long;
        kept = λ l. subst (λ (k : ℕ). Kept i.width (stored_at s k (recorded t)) (i.accepted ++ (m ∷ []))) (sym o)
            (kept_more i.accepted m (recorded t) g i.width s wide l (kept l));
      }

  pub stays : Stands (length s) (record { picture = p; store = s }) i
  stays = record { picture = refl; size = size; long = refl; kept = kept }

  abbrev store_by : Result ⊤ BlockAssemblyError → Res (List Parts) → List ℤ
  store_by st y = kept_by st (store_told p x.header x.context.use_intra_dc_vlc context x.matrix ar y s) s

  by_state : (st : Result ⊤ BlockAssemblyError) (y : Res (List Parts)) → ideal_state (length s) i x ≡ st
      → Stands (length s) (record { picture = picture_after p (answer_by st (answer_told p x.bytes x.start y)); store = store_by st y }) (with_list (added_to (length s) i x st y))
  by_state (Err e) y f = stays
  by_state (Ok tt) (no e) f = stays
  by_state (Ok tt) (ok t r) f =
      let g = passed f in
      added t (remembered context x.matrix (around_in i) (rows_here (length s) i x t)) (record_gives context x.matrix ar (around_in i) (rows_here (length s) i x t) g.fine g.agree)

  store_is : store_out p x s ≡ store_with p x (ideal_state (length s) i x) ar s
  unfolding store_out
  store_is = ap (λ (st : Result ⊤ BlockAssemblyError). store_with p x st ar s) state-is

  pub stands_on : Stands (length s) (next (record { picture = p; store = s }) (handed x)) (onward_from (length s) i x)
  unfolding onward_from
  stands_on =
      let j = onward_from (length s) i x in
      subst (λ (a : Result PictureDecoded BlockAssemblyError). Stands (length s) (record { picture = picture_after p a; store = store_out p x s }) j) (sym answer-is)
      (subst (λ (t : List ℤ). Stands (length s) (record { picture = picture_after p (answer_with p x (ideal_state (length s) i x)); store = t }) j) (sym store_is)
      (by_state (ideal_state (length s) i x) (sentence_here p x) refl))

-- ---- a call whose header is in its bits

module _ (i : Ideal) (s : List ℤ) (size : size_fine i.width i.height ≡ true) (kept : 192 * i.width ≤ length s → Kept i.width s i.accepted) (x : Bare) where
  abbrev now : Picture
  now = picture_now i

  abbrev scale : ℕ
  scale = x.context.quantiser_scale

  -- with a header that is handed in its place
  abbrev some : Input
  some = given x.bytes x.start (record_by 0 0 0) x.context x.matrix x.samples

  abbrev full_bare : Bool → Bool → Bool → Bool → Bool → Bool → Bool → Result ⊤ BlockAssemblyError
  full_bare a b c e f g t =
      cond a (cond b (cond c (cond e (cond f (cond g (cond t (Ok tt) (Err Predictor)) (Err Complete)) (Err TooShort)) (Err TooShort)) (Err Context)) (Err OutOfRange)) (Err OutOfRange)

  passes_bare : (b c e f g t : Bool) → (c ≡ true → f ≡ true → t ≡ true) → full_bare true b c e f g t ≡ full_bare true b c e f g true
  passes_bare b true e true g t k = ap (full_bare true b true e true g) (k refl refl)
  passes_bare b true e false g t k = refl
  passes_bare b false e f g t k = refl

  bare-is : state_bare now x s ≡ bare_state (length s) i x
  unfolding state_before bare_state
  bare-is =
      let b = in_data (length x.bytes) x.start in
      let c = context_fine (context_of now x.context) x.matrix in
      let e = leb 384 (length x.samples) in
      let f = leb (192 * i.width) (length s) in
      let g = ltb (length i.accepted) (i.width * i.height) in
      let t = neighbours_fine i.depth scale (around_due now scale s) (blank scale) in
      ap (λ (a : Bool). full_bare a b c e f g t) size ∙ passes_bare b c e f g t (neighbours i s size kept some)

  -- by the state and the header
  module _ (st : Result ⊤ BlockAssemblyError) (f : bare_state (length s) i x ≡ st) where
    state_then : state_bare now x s ≡ st
    state_then = bare-is ∙ f

    answer_by_lem : W.answer_out now x s ≡ W.whole_by now x st (W.whole_told now x (W.whole_here now x))
    unfolding W.answer_out
    answer_by_lem = ap (λ (k : Result ⊤ BlockAssemblyError). W.whole_by now x k (W.whole_told now x (W.whole_here now x))) state_then

    samples_then_lem : W.samples_out now x s ≡ kept_by st (W.samples_whole now x s (W.whole_here now x)) x.samples
    unfolding W.samples_out
    samples_then_lem = ap (λ (k : Result ⊤ BlockAssemblyError). kept_by k (W.samples_whole now x s (W.whole_here now x)) x.samples) state_then

    store_then : W.store_out now x s ≡ kept_by st (W.store_whole now x s (W.whole_here now x)) s
    unfolding W.store_out
    store_then = ap (λ (k : Result ⊤ BlockAssemblyError). kept_by k (W.store_whole now x s (W.whole_here now x)) s) state_then

  told_by_lem : (st : Result ⊤ BlockAssemblyError) (y : Res Header) → bare_state (length s) i x ≡ st → header_here (length s) i x ≡ y
      → whole_decoded (W.answer_out now x s) (W.samples_out now x s) ≡ told_bare (length s) i x st y
  told_by_lem (Err e) y f g = ap₂ whole_decoded (answer_by_lem (Err e) f) (samples_then_lem (Err e) f)
  told_by_lem (Ok tt) (no e) f g =
      let z = whole-not now x g in
      ap₂ whole_decoded (answer_by_lem (Ok tt) f ∙ ap (W.whole_told now x) z) (samples_then_lem (Ok tt) f ∙ ap (W.samples_whole now x s) z)
  told_by_lem (Ok tt) (ok h r) f g =
      let w = with_header_is now x s (state_then (Ok tt) f) h r g in
      ap₂ whole_decoded (w.answer ∙ ap (W.with_header (length (header_bits h)) (fields_of scale h)) (answer-is i s size kept (W.behind x h))) (w.samples ∙ samples-is i s size kept (W.behind x h))

  pub told-bare : told (record { picture = now; store = s }) (in_bits x) ≡ told_bare (length s) i x (bare_state (length s) i x) (header_here (length s) i x)
  told-bare = told_by_lem (bare_state (length s) i x) (header_here (length s) i x) refl refl

  -- what it leaves

  same-picture : (n : ℕ) (fs : HeaderFields) (a : Result PictureDecoded BlockAssemblyError) → picture_after_whole now (W.with_header n fs a) ≡ picture_after now a
  same-picture n fs (Ok d) = refl
  same-picture n fs (Err e) = refl

  abbrev left : Result PictureWholeDecoded BlockAssemblyError → List ℤ → State
  left a t = record { picture = picture_after_whole now a; store = t }

  by_header : (st : Result ⊤ BlockAssemblyError) (y : Res Header) → bare_state (length s) i x ≡ st → header_here (length s) i x ≡ y
      → Stands (length s) (left (W.answer_out now x s) (W.store_out now x s)) (onward_bare (length s) i x st y)
  by_header (Err e) y f g = subst₂ (λ (a : Result PictureWholeDecoded BlockAssemblyError) (t : List ℤ). Stands (length s) (left a t) i) (sym (answer_by_lem (Err e) f)) (sym (store_then (Err e) f)) (stays i s size kept some)
  by_header (Ok tt) (no e) f g =
      let z = whole-not now x g in
      subst₂ (λ (a : Result PictureWholeDecoded BlockAssemblyError) (t : List ℤ). Stands (length s) (left a t) i) (sym (answer_by_lem (Ok tt) f ∙ ap (W.whole_told now x) z)) (sym (store_then (Ok tt) f ∙ ap (W.store_whole now x s) z)) (stays i s size kept some)
  by_header (Ok tt) (ok h r) f g =
      let w = with_header_is now x s (state_then (Ok tt) f) h r g in
      let n = length (header_bits h) in
      subst₂ (λ (a : Picture) (t : List ℤ). Stands (length s) (record { picture = a; store = t }) (onward_from (length s) i (W.behind x h)))
      (sym (ap (picture_after_whole now) w.answer ∙ same-picture n (fields_of scale h) (answer_out now (W.behind x h) s))) (sym w.kept)
      (stands_on i s size kept (W.behind x h))

  pub stands_bare : Stands (length s) (next (record { picture = now; store = s }) (in_bits x)) (onward_bare (length s) i x (bare_state (length s) i x) (header_here (length s) i x))
  stands_bare = by_header (bare_state (length s) i x) (header_here (length s) i x) refl refl
