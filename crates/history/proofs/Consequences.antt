-- What follows of the contracts: a refused step leaves no trace, a full picture is complete and takes no more, and what the first macroblock has of one read alone. Assumes nothing.
use mathlib.Core.Bool.{Bool, cond, false, true}
use mathlib.Core.List.{List, [], ◌++◌, ◌∷◌}
use mathlib.Core.Logic.{◌⊎◌, ⊎_elim}
use mathlib.Core.Path.{◌≡◌, ap, ap₂, refl, subst⁻¹, sym, ◌∙◌}
use Prim.Native.Nat.{ℕ, ◌*◌, ◌+◌, ◌<◌, ◌≤◌}
use native.Mathlib.Nat.{mod-eq_of_lt}
use native.Mathlib.Omega.{arith}
use lib.Dec.{leb, ltb}
use lib.IntN.{ℤ}
use lib.ListN.{get_or, length}
use borrow.Author.Tests.{le-leb, le-ltb, lt-leb, ltb-true}
use Rattle.bits.specs.Cursor.{in_data}
use Rattle.prediction.specs.Prediction.{outside_of}
use Rattle.prediction.specs.declared.predictor.BlockPredictors.{BlockPredictors}
use Rattle.numbers.proofs.Fill.{get_or-build}
use Rattle.sentences.specs.Macroblock.{Parts}
use Rattle.fields.specs.Reader.{Res, no, ok}
use Rattle.assembly.proofs.TestLaws.{all_pass}
use Rattle.codes.specs.Component.{component_at}
use Rattle.assembly.specs.Values.{context_fine, levels_of, values_of}
use Rattle.assembly.specs.declared.context.MacroblockTextureContext.{MacroblockTextureContext}
use Rattle.assembly.specs.declared.error.BlockAssemblyError.{BlockAssemblyError}
use Rattle.assembly.specs.declared.error.BlockAssemblyError.TheVariants.{Complete, Context, OutOfRange, TooShort}
use Rattle.macroblock.specs.Answer.{kept_by, told as told_alone}
use Rattle.headers.specs.Fields.{header_check}
use Rattle.headers.specs.Header.{Header}
use Rattle.macroblock.specs.Six.{block_at, values_of_six}
use Rattle.neighbours.specs.Neighbours.{Around, found, predictors}
use Rattle.record.specs.Record.{record_at}
use Rattle.picture.specs.Call.{Input, answer_by, answer_out, answer_told, answer_with, around_here, context_here, samples_out, samples_told, sentence_here, state_here, store_out, store_told}
use Rattle.macroblock.specs.Whole.{Whole}
use Rattle.picture.specs.Whole as W
use Rattle.picture.specs.Whole.{Bare}
use Rattle.picture_state.specs.Picture.{onward, open_of, picture_of}
use Rattle.picture_state.specs.Ring.{around_due, offset}
use Rattle.picture.specs.Serial.{record_up_to, values_in_turn}
use Rattle.picture_state.specs.declared.picture.Picture.{Picture}
use Rattle.std.specs.Prelude.{Err, Ok, Result, ⊤, None}
use Rattle.macroblock.specs.declared.decode.MacroblockDecoded.{MacroblockDecoded}
use Rattle.picture.specs.declared.whole.PictureWholeDecoded.{PictureWholeDecoded}
use Rattle.picture.specs.declared.call.PictureDecoded.{PictureDecoded}
use Rattle.history.proofs.Longer.{longer}
use Rattle.history.proofs.Runs.{history}
use Rattle.history.specs.History.{State, next, picture_after, picture_after_whole, picture_opened, told}
use Rattle.history.specs.Ideal.{Ideal, added_to, bare_state, blank_ideal, header_here, ideal, ideal_next, ideal_state, ideal_tests, ideal_told, onward_bare, onward_from, picture_now, reopened, samples_ideal}
use Rattle.history.specs.Remembered.{Remembered}
use Rattle.history.specs.Step.{Step, Told, after_all, decoded, handed, in_bits, opened, opening, told_all, whole_decoded}

-- ---- a refused step leaves no trace

module _ (p : Picture) (x : Input) (s : List ℤ) {e : BlockAssemblyError} (q : answer_out p x s ≡ Err e) where
  abbrev samples_read : Res (List Parts) → List ℤ
  samples_read y = samples_told x.header x.context.use_intra_dc_vlc (context_here p x) x.matrix (around_here p x s) y x.samples

  abbrev store_read : Res (List Parts) → List ℤ
  store_read y = store_told p x.header x.context.use_intra_dc_vlc (context_here p x) x.matrix (around_here p x s) y s

  untouched : (st : Result ⊤ BlockAssemblyError) (y : Res (List Parts)) → answer_by st (answer_told p x.bytes x.start y) ≡ Err e
      → (kept_by st (samples_read y) x.samples ≡ x.samples) × (kept_by st (store_read y) s ≡ s)
  untouched (Err n) y k = (refl, refl)
  untouched (Ok tt) (no n) k = (refl, refl)
  untouched (Ok tt) (ok t r) k = absurd (let z : ◌≡◌ {A = ℕ} 0 1 = cc in omega arith)

  pub samples-kept : samples_out p x s ≡ x.samples
  unfolding answer_out samples_out
  samples-kept = (untouched (state_here p x s) (sentence_here p x) q).0

  pub store_kept : store_out p x s ≡ s
  unfolding answer_out store_out
  store_kept = (untouched (state_here p x s) (sentence_here p x) q).1

-- the same of a call whose header is in its bits
module _ (p : Picture) (x : Bare) (s : List ℤ) {e : BlockAssemblyError} (q : W.answer_out p x s ≡ Err e) where
  untouched_whole : (st : Result ⊤ BlockAssemblyError) (y : Res Whole) → W.whole_by p x st (W.whole_told p x y) ≡ Err e
      → (kept_by st (W.samples_whole p x s y) x.samples ≡ x.samples) × (kept_by st (W.store_whole p x s y) s ≡ s)
  untouched_whole (Err n) y k = (refl, refl)
  untouched_whole (Ok tt) (no n) k = (refl, refl)
  untouched_whole (Ok tt) (ok t r) k = absurd (let z : ◌≡◌ {A = ℕ} 0 1 = cc in omega arith)

  pub whole-samples-kept : W.samples_out p x s ≡ x.samples
  unfolding W.answer_out W.samples_out
  whole-samples-kept = (untouched_whole (W.state_bare p x s) (W.whole_here p x) q).0

  pub whole-store-kept : W.store_out p x s ≡ s
  unfolding W.answer_out W.store_out
  whole-store-kept = (untouched_whole (W.state_bare p x s) (W.whole_here p x) q).1

-- told a number
abbrev pub Refusal : Told → Type 0
Refusal (opened (Ok p)) = ⊥
Refusal (opened (Err e)) = Unit {0}
Refusal (decoded (Ok d) samples) = ⊥
Refusal (decoded (Err e) samples) = Unit {0}
Refusal (whole_decoded (Ok d) samples) = ⊥
Refusal (whole_decoded (Err e) samples) = Unit {0}

module _ (s : State) where
  same-opened : (o : Result Picture BlockAssemblyError) → Refusal (opened o) → picture_opened s.picture o ≡ s.picture
  same-opened (Ok p) k = absurd k
  same-opened (Err e) k = refl

  same-decoded : (x : Input) (a : Result PictureDecoded BlockAssemblyError) (t : List ℤ) → answer_out s.picture x s.store ≡ a → Refusal (decoded a t) → next s (handed x) ≡ s
  same-decoded x (Ok d) t e k = absurd k
  same-decoded x (Err n) t e k = λ i. record { picture = picture_after s.picture (e i); store = store_kept s.picture x s.store e i }

  same_whole : (x : Bare) (a : Result PictureWholeDecoded BlockAssemblyError) (t : List ℤ) → W.answer_out s.picture x s.store ≡ a → Refusal (whole_decoded a t) → next s (in_bits x) ≡ s
  same_whole x (Ok d) t e k = absurd k
  same_whole x (Err n) t e k = λ i. record { picture = picture_after_whole s.picture (e i); store = whole-store-kept s.picture x s.store e i }

  pub state-kept : (x : Step) → Refusal (told s x) → next s x ≡ s
  state-kept (opening w h depth method) k = λ i. record { picture = same-opened (open_of w h depth method) k i; store = s.store }
  state-kept (handed x) k = same-decoded x (answer_out s.picture x s.store) (samples_out s.picture x s.store) refl k
  state-kept (in_bits x) k = same_whole x (W.answer_out s.picture x s.store) (W.samples_out s.picture x s.store) refl k

-- a run after a run
told_on : (ys xs : List Step) (s : State) → told_all told next s (ys ++ xs) ≡ told_all told next s ys ++ told_all told next (after_all told next s ys) xs
unfolding told_all after_all
told_on [] xs s = refl
told_on (y ∷ ys) xs s = ap (λ (ts : List Told). told s y ∷ ts) (told_on ys xs (next s y))

after_on : (ys xs : List Step) (s : State) → after_all told next s (ys ++ xs) ≡ after_all told next (after_all told next s ys) xs
unfolding after_all
after_on [] xs s = refl
after_on (y ∷ ys) xs s = after_on ys xs (next s y)

-- with the refused step x in its midst a run tells the others what it tells them without, and leaves the same
module _ (ys : List Step) (x : Step) (xs : List Step) (s : State) where
  abbrev there : State
  there = after_all told next s ys

  pub record NoTrace : Type 0 where
    pub with_it : told_all told next s (ys ++ (x ∷ xs)) ≡ told_all told next s ys ++ (told there x ∷ told_all told next there xs)
    pub without : told_all told next s (ys ++ xs) ≡ told_all told next s ys ++ told_all told next there xs
    pub left : after_all told next s (ys ++ (x ∷ xs)) ≡ after_all told next s (ys ++ xs)

  pub no_trace : Refusal (told there x) → NoTrace
  unfolding told_all after_all
  no_trace k =
      let e = state-kept there x k in
      record {
        with_it = told_on ys (x ∷ xs) s ∙ ap (λ (t : State). told_all told next s ys ++ (told there x ∷ told_all told next t xs)) e;
        without = told_on ys xs s;
        left = after_on ys (x ∷ xs) s ∙ ap (λ (t : State). after_all told next t xs) e ∙ sym (after_on ys xs s);
      }

-- ---- 15 from width times height on

module _ (room : ℕ) (i : Ideal) (x : Input) (full : i.width * i.height ≤ length i.accepted)
    (a : in_data (length x.bytes) x.start ≡ true) (b : context_fine (context_here (picture_now i) x) x.matrix ≡ true) (c : 384 ≤ length x.samples) (d : 192 * i.width ≤ room) where
  complete-state : ideal_state room i x ≡ Err Complete
  unfolding ideal_state
  complete-state =
      ap₂ (λ (s t : Bool). tests s t (leb 384 (length x.samples)) (leb (192 * i.width) room) (ltb (length i.accepted) (i.width * i.height))) a b
      ∙ ap₂ (λ (s t : Bool). tests true true s t (ltb (length i.accepted) (i.width * i.height))) (le-leb 384 (length x.samples) c) (le-leb (192 * i.width) room d)
      ∙ ap (tests true true true true) (le-ltb (length i.accepted) (i.width * i.height) full)
    where
      tests : Bool → Bool → Bool → Bool → Bool → Result ⊤ BlockAssemblyError
      tests s t u r v = cond s (cond t (cond u (cond r (cond v (header_check x.header) (Err Complete)) (Err TooShort)) (Err TooShort)) (Err Context)) (Err OutOfRange)

  pub complete : ideal room i x ≡ decoded (Err Complete) x.samples
  unfolding ideal
  complete =
      ap (λ (st : Result ⊤ BlockAssemblyError). decoded (answer_with (picture_now i) x st) (kept_by st (samples_ideal room i x (sentence_here (picture_now i) x)) x.samples)) complete-state

-- ---- never more

abbrev pub AtMost : Ideal → Type 0
AtMost i = length i.accepted ≤ i.width * i.height

module _ (room : ℕ) where
  at_most_call : (i : Ideal) (x : Input) → AtMost i → AtMost (onward_from room i x)
  unfolding onward_from ideal_state
  at_most_call i x l = go (ideal_state room i x) (sentence_here (picture_now i) x) due
    where
      due : ideal_state room i x ≡ Ok tt → length i.accepted < i.width * i.height
      due e = ltb-true (length i.accepted) (i.width * i.height) (all_pass (ideal_tests room i x) e).1.1.1.1.0

      one_more_lem : (m : Remembered) → length i.accepted < i.width * i.height → length (i.accepted ++ (m ∷ [])) ≤ i.width * i.height
      one_more_lem m k = omega (arith, longer i.accepted m)

      go : (st : Result ⊤ BlockAssemblyError) (y : Res (List Parts)) → (st ≡ Ok tt → length i.accepted < i.width * i.height) → length (added_to room i x st y) ≤ i.width * i.height
      go (Err e) y f = l
      go (Ok tt) (no e) f = l
      go (Ok tt) (ok t r) f = one_more_lem _ (f refl)

  at_most_bare : (i : Ideal) (x : Bare) (st : Result ⊤ BlockAssemblyError) (y : Res Header) → AtMost i → AtMost (onward_bare room i x st y)
  at_most_bare i x (Err e) y l = l
  at_most_bare i x (Ok tt) (no e) l = l
  at_most_bare i x (Ok tt) (ok h r) l = at_most_call i (W.behind x h) l

  at_most_opened : (i : Ideal) (w h depth : ℕ) (method : Bool) (o : Result Picture BlockAssemblyError) → AtMost i → AtMost (reopened i w h depth method o)
  at_most_opened i w h depth method (Ok p) l = omega arith
  at_most_opened i w h depth method (Err e) l = l

  at_most_next : (i : Ideal) (x : Step) → AtMost i → AtMost (ideal_next room i x)
  at_most_next i (opening w h depth method) l = at_most_opened i w h depth method (open_of w h depth method) l
  at_most_next i (handed x) l = at_most_call i x l
  at_most_next i (in_bits x) l = at_most_bare i x (bare_state room i x) (header_here room i x) l

  at_most_after : (xs : List Step) (i : Ideal) → AtMost i → AtMost (after_all (ideal_told room) (ideal_next room) i xs)
  unfolding after_all
  at_most_after [] i l = l
  at_most_after (x ∷ xs) i l = at_most_after xs (ideal_next room i x) (at_most_next i x l)

-- after any run the picture has accepted at most width times height
pub at_most : (w h depth : ℕ) (method : Bool) (p : Picture) → open_of w h depth method ≡ Ok p → (store : List ℤ) (xs : List Step)
    → let q = (after_all told next (record { picture = p; store = store }) xs).picture in q.accepted ≤ q.width * q.height
at_most w h depth method p e store xs =
    subst⁻¹ (λ (q : Picture). q.accepted ≤ q.width * q.height) (history w h depth method p e store xs).picture
    (at_most_after (length store) xs (blank_ideal w h depth method) (omega arith))

-- ---- the first macroblock, and one read alone with `BlockPredictors::outside`

-- no macroblock around
abbrev nothing : Around
nothing = record { left = None; above_left = None; above = None }

pub first_around : (w h depth q : ℕ) (method : Bool) (s : List ℤ) → 1 ≤ w → around_due (picture_of w h depth method 0) q s ≡ nothing
unfolding around_due
first_around w h depth q method s l =
    ap₂
    (λ (a : ℕ) (b : Bool).
    record {
      left = found (ltb 0 a) (record_at s (offset w 0 1));
      above_left = found (cond (ltb 0 a) b false) (record_at s (offset w 0 (w + 1)));
      above = found b (record_at s (offset w 0 w));
    }) (mod-eq_of_lt l) (lt-leb w 0 l)

-- the same bits are taken, with the same events of each spelling, and the same refusals of the bits
abbrev pub with_picture : Picture → Result MacroblockDecoded BlockAssemblyError → Result PictureDecoded BlockAssemblyError
with_picture p (Ok d) = Ok (record { bits = d.bits; next = d.next; spellings = d.spellings; picture = onward p })
with_picture p (Err e) = Err e

pub same_reading : (p : Picture) (d : List ℕ) (at : ℕ) (y : Res (List Parts)) → answer_told p d at y ≡ with_picture p (told_alone d at y)
same_reading p d at (ok s r) = refl
same_reading p d at (no e) = refl

-- blocks 0, 4 and 5 have no neighbour inside the macroblock, and so the same values and samples
abbrev pub Outer : ℕ → Type 0
Outer i = (i ≡ 0) ⊎ ((i ≡ 4) ⊎ (i ≡ 5))

outer_predictors : (depth q : ℕ) (own : List ℤ) (i : ℕ) → Outer i → predictors depth q nothing own i ≡ outside_of depth q
unfolding predictors
outer_predictors depth q own i o =
    ⊎_elim (λ (e : i ≡ 0). rw e) (λ (t : (i ≡ 4) ⊎ (i ≡ 5)). ⊎_elim (λ (e : i ≡ 4). rw e) (λ (e : i ≡ 5). rw e) t) o

pub first_blocks : (x : MacroblockTextureContext) (w : List (List ℕ)) (rows : List (List ℤ)) (i : ℕ) → Outer i → i < 6
    → block_at (values_in_turn x w nothing rows) i ≡ block_at (values_of_six x (outside_of x.bits_per_pixel x.quantiser_scale) w rows) i
unfolding values_in_turn values_of_six
first_blocks x w rows i o l =
    get_or-build 6 _ i [] l
    ∙ ap (λ (p : BlockPredictors). values_of (component_at i) x w (levels_of (component_at i) x p (get_or rows i []))) (outer_predictors x.bits_per_pixel x.quantiser_scale (record_up_to x w nothing rows i) i o)
    ∙ sym (get_or-build 6 _ i [] l)
