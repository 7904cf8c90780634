-- The loop over the events of a list: what is left to answer is the same after each event, and at the start it is the reader's answer. Assumes nothing.
use mathlib.Core.Bool.{Bool, true, false, cond}
use mathlib.Core.List.{List}
use mathlib.Core.Path.{◌≡◌, refl, sym, ap, ap₂, ◌∙◌, subst, subst₂}
use Prim.Native.Nat.{ℕ, zero, suc, ◌+◌, ◌≤◌, ◌<◌, ◌*◌, ◌-◌}
use native.Mathlib.Nat.{le_refl}
use native.Mathlib.Omega.{arith}
use lib.Dec.{ltb, eqb, leb}
use lib.IntN.{pos, ℤ, ◌-ℤ◌, nat_abs, neg_ℤ}
use lib.ListN.{length, set, length-append, length-set}
use borrow.Author.Tests.{eqb-true, lt-ltb, ltb-false, ne_eqb, leb-false, leb-true, ltb-true}
use Rattle.bits.proofs.BitLaws.{length-bits_from}
use Rattle.bits.specs.Bits.{Bits, bits_from}
use Rattle.bits.specs.Cursor.{cursor_at}
use Rattle.bits.specs.declared.cursor.Cursor.{Cursor}
use Rattle.codes.specs.Rvlc.{rvlc_codes, rvlc_lens}
use Rattle.codes.specs.Tcoef.{vlc_codes, vlc_lens, lmax_by, tcoef_of}
use Rattle.codes.specs.declared.tcoef_tables.TcoefTable.{TcoefTable}
use Rattle.events.proofs.ChainLaws.{event-says}
use Rattle.events.proofs.EitherLaws.{event-long, event-sound}
use Rattle.events.proofs.RowLaws.{level_at, lmax_at, rmax_at, run_at, rvlc_level_at, rvlc_run_at, rvlc_small, tcoef_small}
use Rattle.events.proofs.SpellingLaws.{more_across, none_first, none_last, total_more}
use Rattle.events.specs.Answer.{event_answer}
use Rattle.events.specs.Event.{Event, event_bits, last_of, run_of, level_of, value_of, GoodEvent, plain, rvlc, rvlc_escape, signed12, signed_by, type1, type2, type3, rvlc_row_of, spelling_of, tcoef_row}
use Rattle.events.specs.EventReader.{event, plain_event, rvlc_event, escaped, rvlc_escaped, sign}
use Rattle.events.specs.Inside.{InsideEvent, said_event}
use Rattle.events.specs.Spellings.{no_spellings, one_more, spellings_of, together, total_of}
use Rattle.events.specs.declared.event.AcEvent.{AcEvent}
use Rattle.events.specs.declared.event.RowForm.TheVariants.{Plain, Reversible}
use Rattle.events.specs.declared.spelling.Spellings.{Spellings}
use Rattle.fields.proofs.ChainLaws.{place_is}
use Rattle.fields.proofs.ReadLaws.{no_ok}
use Rattle.fields.proofs.StepLaws.{code_empty}
use Rattle.fields.specs.Reader.{Res, ok, no, bind, mapped}
use Rattle.fields.specs.declared.error.TextureParseError.{TextureParseError}
use Rattle.fields.specs.declared.error.TextureParseError.TheVariants.{Truncated, InvalidTcoef, Overflow}
use Rattle.numbers.proofs.Integers.{diff_is, halves}
use Rattle.numbers.proofs.Magnitudes.{abs_neg}
use Rattle.texture.proofs.ListLaws.{bad_lands}
use Rattle.texture.specs.Events.{Events, final, more, Lands, listed}
use Rattle.texture.specs.EventsReader.{events_in, bad, list}
use Rattle.texture.specs.Inside.{State, put_of, closed, gives, listed_of, refused_by}
use Rattle.texture.specs.Places.{zeros, placed}
use Rattle.texture.specs.declared.list.ListRead.{ListRead}
use Rattle.std.specs.Prelude.{Err, Ok, Result}
use Rattle.codes.specs.Tcoef as R

-- ---- the loop's state, in the reader's terms

unfoldable pub folded : TcoefTable → State → Events → State
folded m s (final e) = put_of s (value_of m e)
folded m s (more e es) = folded m (put_of s (value_of m e)) es

-- the answer once the list is read through
abbrev pub ended : State → Bits → Res (List ℤ × Spellings)
ended s r = cond (eqb s.bad 0) (ok (s.qfs, s.spellings) r) (no (Overflow s.bad))

-- what is left to answer from a state and the bits that are left
unfoldable pub rest : Bool → TcoefTable → State → Bits → Res (List ℤ × Spellings)
rest rev m s b = bind (events_in rev m (length b) b) (λ es r. ended (folded m s es) r)

abbrev pub start_of : ℕ → State
start_of place = record { place = place; bad = 0; spellings = no_spellings; qfs = zeros }

value_in : AcEvent → Res AcEvent → AcEvent
value_in v (ok x r) = x
value_in v (no n) = v

bits_in : Bits → Res AcEvent → Bits
bits_in b (ok x r) = r
bits_in b (no n) = b

-- an event takes bits
pub event_less : (rev : Bool) (b : Bits) (e : Event) (r : Bits) → event rev b ≡ ok e r → length r < length b
event_less rev b e r q =
    let s = event-sound rev b q in
    let len = ap length s.1 ∙ length-append (event_bits e) r in
    omega (arith, event-long e)

event-none : (rev : Bool) (b : Bits) → length b ≡ 0 → event rev b ≡ no Truncated
unfolding event plain_event rvlc_event
event-none false b h = ap (λ (x : Res ℕ). bind x (λ i r. cond (eqb i 102) (escaped r) (sign Plain i r))) (code_empty vlc_codes vlc_lens 13 103 InvalidTcoef b h)
event-none true b h = ap (λ (x : Res ℕ). bind x (λ i r. cond (eqb i 169) (rvlc_escaped r) (sign Reversible i r))) (code_empty rvlc_codes rvlc_lens 16 170 InvalidTcoef b h)

-- a step of the event's value is a step of the event
record Behind (m : TcoefTable) (x : Res Event) (v : AcEvent) (r : Bits) : Type 0 where
  pub event : Event
  pub read : x ≡ ok event r
  pub value : value_of m event ≡ v

behind : (m : TcoefTable) (x : Res Event) {v : AcEvent} {r : Bits} → mapped (value_of m) x ≡ ok v r → Behind m x v r
unfolding value_in bits_in
behind m (ok e s) {v} {r} q =
    let e₁ : value_of m e ≡ v = ap (value_in v) q in
    let e₂ : s ≡ r = ap (bits_in r) q in
    record { event = e; read = ap (λ (k : Bits). ok e k) e₂; value = e₁ }
behind m (no n) q = absurd (no_ok q)

behind-no : (m : TcoefTable) (x : Res Event) {n : TextureParseError} → mapped (value_of m) x ≡ no n → x ≡ no n
behind-no m (ok e s) {n} q = absurd (let z : ◌≡◌ {A = ℕ} 0 1 = cc in omega arith)
behind-no m (no a) {n} q = let e₁ : a ≡ n = cc in ap no e₁

module _ (rev : Bool) (m : TcoefTable) where
  -- more fuel changes nothing
  pub fuel : (n k : ℕ) (b : Bits) → length b ≤ n → length b ≤ k → events_in rev m n b ≡ events_in rev m k b
  unfolding events_in
  fuel zero zero b h h' = refl
  fuel zero (suc k) b h h' = sym (ap (λ (x : Res Event). bind x (λ e r. cond (last_of m e) (ok (final e) r) (bind (events_in rev m k r) (λ es r. ok (more e es) r)))) (event-none rev b (omega arith)))
  fuel (suc n) zero b h h' = ap (λ (x : Res Event). bind x (λ e r. cond (last_of m e) (ok (final e) r) (bind (events_in rev m n r) (λ es r. ok (more e es) r)))) (event-none rev b (omega arith))
  fuel (suc n) (suc k) b h h' = go (event rev b) refl (λ r a c. fuel n k r a c)
    where
      go : (x : Res Event) → event rev b ≡ x → ((r : Bits) → length r ≤ n → length r ≤ k → events_in rev m n r ≡ events_in rev m k r)
          → bind x (λ e r. cond (last_of m e) (ok (final e) r) (bind (events_in rev m n r) (λ es r. ok (more e es) r)))
          ≡ bind x (λ e r. cond (last_of m e) (ok (final e) r) (bind (events_in rev m k r) (λ es r. ok (more e es) r)))
      go (ok e r) q next =
          let l = event_less rev b e r q in
          ap (λ (y : Res Events). cond (last_of m e) (ok (final e) r) (bind y (λ es r. ok (more e es) r))) (next r (omega arith) (omega arith))
      go (no e) q next = refl

  abbrev after : ℕ → Event → Bits → Res Events
  after n e r = cond (last_of m e) (ok (final e) r) (bind (events_in rev m n r) (λ es r. ok (more e es) r))

  -- the list by its first event
  opened : (b : Bits) → events_in rev m (length b) b ≡ bind (event rev b) (after (length b))
  unfolding events_in
  opened b = fuel (length b) (suc (length b)) b (le_refl _) (omega arith)

  pub rest-no : (s : State) (b : Bits) {n : TextureParseError} → event rev b ≡ no n → rest rev m s b ≡ no n
  unfolding rest
  rest-no s b q =
      ap (λ (x : Res Events). bind x (λ es r. ended (folded m s es) r)) (opened b ∙ ap (λ (x : Res Event). bind x (after (length b))) q)

  pub rest-last : (s : State) (b : Bits) (e : Event) (r : Bits) → event rev b ≡ ok e r → last_of m e ≡ true → rest rev m s b ≡ ended (put_of s (value_of m e)) r
  unfolding rest folded
  rest-last s b e r q l =
      ap (λ (x : Res Events). bind x (λ es r. ended (folded m s es) r))
      (opened b ∙ ap (λ (x : Res Event). bind x (after (length b))) q
      ∙ ap (λ (t : Bool). cond t (ok (final e) r) (bind (events_in rev m (length b) r) (λ es r. ok (more e es) r))) l)

  pub rest_more : (s : State) (b : Bits) (e : Event) (r : Bits) → event rev b ≡ ok e r → last_of m e ≡ false
      → rest rev m s b ≡ rest rev m (put_of s (value_of m e)) r
  unfolding rest folded
  rest_more s b e r q l =
      let less = event_less rev b e r q in
      ap (λ (x : Res Events). bind x (λ es r. ended (folded m s es) r))
      (opened b ∙ ap (λ (x : Res Event). bind x (after (length b))) q
      ∙ ap (λ (t : Bool). cond t (ok (final e) r) (bind (events_in rev m (length b) r) (λ es r. ok (more e es) r))) l
      ∙ ap (λ (x : Res Events). bind x (λ es r. ok (more e es) r)) (fuel (length b) (length r) r (omega arith) (le_refl _)))
      ∙ through (events_in rev m (length r) r)
    where
      through : (x : Res Events) → bind (bind x (λ es r. ok (more e es) r)) (λ es r. ended (folded m s es) r)
          ≡ bind x (λ es r. ended (folded m (put_of s (value_of m e)) es) r)
      through (ok es u) = refl
      through (no n) = refl

  -- ---- at the start: the reader's answer

  abbrev st : ℕ → ℕ → Spellings → List ℤ → State
  st place b n xs = record { place = place; bad = b; spellings = n; qfs = xs }

  stuck : (s : State) (es : Events) → (s.bad ≡ 0 → ⊥) → folded m s es ≡ s
  unfolding folded
  stuck s (final e) h = rw (ne_eqb s.bad 0 h)
  stuck s (more e es) h = rw (ne_eqb s.bad 0 h) (stuck s es h)

  -- the state after an event that lands, and after one that does not
  abbrev landed : ℕ → Spellings → List ℤ → Event → State
  landed place n xs e = st (place + run_of m e + 1) 0 (one_more (spelling_of e) n) (set xs (place + run_of m e) (level_of m e))

  abbrev missed : ℕ → Spellings → List ℤ → Event → State
  missed place n xs e = st place (place + run_of m e) n xs

  put_good : (place : ℕ) (n : Spellings) (xs : List ℤ) (e : Event) → place + run_of m e < 64 → put_of (st place 0 n xs) (value_of m e) ≡ landed place n xs e
  put_good place n xs e h = rw (lt-ltb (place + run_of m e) 64 h)

  pub folded_bad : (place : ℕ) (n : Spellings) (xs : List ℤ) (es : Events) → (folded m (st place 0 n xs) es).bad ≡ bad m place es
  unfolding folded bad
  folded_bad place n xs (final e) = go (ltb (place + run_of m e) 64)
    where
      go : (t : Bool) → (cond t (landed place n xs e) (missed place n xs e)).bad ≡ cond t 0 (place + run_of m e)
      go true = refl
      go false = refl
  folded_bad place n xs (more e es) =
      go (ltb (place + run_of m e) 64) refl (folded_bad (place + run_of m e + 1) (one_more (spelling_of e) n) (set xs (place + run_of m e) (level_of m e)) es)
    where
      go : (t : Bool) → ltb (place + run_of m e) 64 ≡ t → (folded m (landed place n xs e) es).bad ≡ bad m (place + run_of m e + 1) es
          → (folded m (cond t (landed place n xs e) (missed place n xs e)) es).bad ≡ cond t (bad m (place + run_of m e + 1) es) (place + run_of m e)
      go true q next = next
      go false q next = ap (λ (s : State). s.bad) (stuck (missed place n xs e) es (λ z. omega (arith, ltb-false (place + run_of m e) 64 q)))

  pub folded_cells : (place : ℕ) (n : Spellings) (xs : List ℤ) (es : Events) → Lands m place es → (folded m (st place 0 n xs) es).qfs ≡ placed m place xs es
  unfolding folded placed Lands
  folded_cells place n xs (final e) h = ap (λ (s : State). s.qfs) (put_good place n xs e h)
  folded_cells place n xs (more e es) h =
      ap (λ (s : State). (folded m s es).qfs) (put_good place n xs e h.0)
      ∙ folded_cells (place + run_of m e + 1) (one_more (spelling_of e) n) (set xs (place + run_of m e) (level_of m e)) es h.1

  pub folded_counts : (place : ℕ) (n : Spellings) (xs : List ℤ) (es : Events) → Lands m place es → (folded m (st place 0 n xs) es).spellings ≡ together n (spellings_of (listed es))
  unfolding folded Lands listed spellings_of
  folded_counts place n xs (final e) h =
      ap (λ (s : State). s.spellings) (put_good place n xs e h) ∙ sym (none_last (one_more (spelling_of e) n)) ∙ more_across (spelling_of e) n no_spellings
  folded_counts place n xs (more e es) h =
      ap (λ (s : State). (folded m s es).spellings) (put_good place n xs e h.0)
      ∙ folded_counts (place + run_of m e + 1) (one_more (spelling_of e) n) (set xs (place + run_of m e) (level_of m e)) es h.1
      ∙ more_across (spelling_of e) n (spellings_of (listed es))

  pub rest-start : (place : ℕ) (b : Bits) → rest rev m (start_of place) b ≡ mapped (gives m place) (list rev m place b)
  unfolding rest list
  rest-start place b = go (events_in rev m (length b) b)
    where
      by : (es : Events) (r : Bits) (t : Bool) → eqb (bad m place es) 0 ≡ t
          → cond t (ok ((folded m (start_of place) es).qfs, (folded m (start_of place) es).spellings) r) (no (Overflow (bad m place es)))
          ≡ mapped (gives m place) (cond t (ok es r) (no (Overflow (bad m place es))))
      by es r true q =
          let l = bad_lands rev m place es (eqb-true (bad m place es) 0 q) in
          ap₂ (λ (x : List ℤ) (n : Spellings). ok (x, n) r) (folded_cells place no_spellings zeros es l) (folded_counts place no_spellings zeros es l ∙ none_first (spellings_of (listed es)))
      by es r false q = refl

      go : (x : Res Events) → bind x (λ es r. ended (folded m (start_of place) es) r)
          ≡ mapped (gives m place) (bind x (λ es r. cond (eqb (bad m place es) 0) (ok es r) (no (Overflow (bad m place es)))))
      go (ok es r) =
          ap (λ (k : ℕ). cond (eqb k 0) (ok ((folded m (start_of place) es).qfs, (folded m (start_of place) es).spellings) r) (no (Overflow k))) (folded_bad place no_spellings zeros es)
          ∙ by es r (eqb (bad m place es) 0) refl
      go (no n) = refl

-- ---- bounds of what an event says

pub record Small (run : ℕ) (level : ℤ) : Type 0 where
  pub run_le : run ≤ 1024
  pub level-le : nat_abs level ≤ 2047

signed_small : (s n : ℕ) → n ≤ 2047 → nat_abs (signed_by s n) ≤ 2047
signed_small s n h = go (eqb s 1)
  where
    go : (t : Bool) → nat_abs (cond t (neg_ℤ (pos n)) (pos n)) ≤ 2047
    go true = omega (arith, abs_neg (pos n))
    go false = h

twelve_small : (v : ℕ) → v < 4096 → (v ≡ 2048 → ⊥) → nat_abs (signed12 v) ≤ 2047
twelve_small v h n = go (leb 2048 v) refl
  where
    go : (t : Bool) → leb 2048 v ≡ t → nat_abs (cond t (pos v -ℤ pos 4096) (pos v)) ≤ 2047
    go true e = let l = leb-true 2048 v e in let z = pos v -ℤ pos 4096 in omega (arith, halves z, diff_is (pos v) (pos 4096))
    go false e = let l = leb-false 2048 v e in omega arith

pub small : (rev : Bool) (m : TcoefTable) (e : Event) → GoodEvent rev e → Small (run_of m e) (level_of m e)
unfolding GoodEvent run_of level_of
small false m (plain i s) g =
    let r = run_at m i g.0 in
    let l = level_at m i g.0 in
    record { run_le = omega (arith, tcoef_small m (102 + i)); level-le = signed_small s (R.level_of (tcoef_row m i)) (omega (arith, tcoef_small m (204 + i))) }
small false m (type1 i s) g =
    let r = run_at m i g.0 in
    let l = level_at m i g.0 in
    let x = lmax_at m i g.0 in
    record { run_le = omega (arith, tcoef_small m (102 + i)); level-le = signed_small s (R.level_of (tcoef_row m i) + lmax_by (tcoef_of m) (tcoef_row m i)) (omega (arith, tcoef_small m (204 + i), tcoef_small m (306 + i))) }
small false m (type2 i s) g =
    let r = run_at m i g.0 in
    let l = level_at m i g.0 in
    let x = rmax_at m i g.0 in
    record { run_le = omega (arith, tcoef_small m (102 + i), tcoef_small m (408 + i)); level-le = signed_small s (R.level_of (tcoef_row m i)) (omega (arith, tcoef_small m (204 + i))) }
small false m (type3 l r v) g = record { run_le = omega arith; level-le = twelve_small v g.2 g.4 }
small false m (rvlc i s) g = absurd g
small false m (rvlc_escape l r n s) g = absurd g
small true m (plain i s) g = absurd g
small true m (type1 i s) g = absurd g
small true m (type2 i s) g = absurd g
small true m (type3 l r v) g = absurd g
small true m (rvlc i s) g =
    let r = rvlc_run_at m i g.0 in
    let l = rvlc_level_at m i g.0 in
    record { run_le = omega (arith, rvlc_small m (169 + i)); level-le = signed_small s (R.level_of (rvlc_row_of m i)) (omega (arith, rvlc_small m (338 + i))) }
small true m (rvlc_escape l r n s) g = record { run_le = omega arith; level-le = signed_small s n (omega arith) }

-- the states of the loop: the next place is at most 64, a bad landing is small, each event that is counted took a place, and there are 64 places
pub record Held (s : State) : Type 0 where
  pub place-le : s.place ≤ 64
  pub bad-le : s.bad ≤ 2000
  pub few : total_of s.spellings ≤ s.place
  pub long : length s.qfs ≡ 64

pub put_held : (s : State) (v : AcEvent) → v.run ≤ 1024 → Held s → Held (put_of s v)
put_held s v h k = go (eqb s.bad 0) (ltb (s.place + v.run) 64) refl
  where
    go : (t u : Bool) → ltb (s.place + v.run) 64 ≡ u
        → Held (cond t (cond u
        (record { place = s.place + v.run + 1; bad = 0; spellings = one_more v.spelling s.spellings; qfs = set s.qfs (s.place + v.run) v.level })
        (record { place = s.place; bad = s.place + v.run; spellings = s.spellings; qfs = s.qfs })) s)
    go true true q =
        record {
          place-le = omega (arith, ltb-true (s.place + v.run) 64 q);
          bad-le = omega arith;
          few = omega (arith, total_more v.spelling s.spellings, k.few);
          long = length-set s.qfs (s.place + v.run) v.level ∙ k.long;
        }
    go true false q = record { place-le = k.place-le; bad-le = omega arith; few = k.few; long = k.long }
    go false u q = k

-- ---- one turn: what the code's answer tells of the event that was read

pub record Turn (d : List ℕ) (rev : Bool) (m : TcoefTable) (at : ℕ) (v : AcEvent) (next : Cursor) : Type 0 where
  pub e : Event
  pub read : event rev (bits_from d at) ≡ ok e (bits_from d next.bit_pos)
  pub is : value_of m e ≡ v
  pub bounds : Small v.run v.level
  pub inside : next.bit_pos ≤ 8 * length d
  pub less : 8 * length d - next.bit_pos < 8 * length d - at

module _ (d : List ℕ) (rev : Bool) (m : TcoefTable) (at : ℕ) (l : at ≤ 8 * length d) (k : length d ≤ 1048576) (x : Result (AcEvent × Cursor) TextureParseError) (h : x ≡ event_answer d at rev m) where
  -- the event was refused, and so is the list
  pub turn-no : {e : TextureParseError} → x ≡ Err e → event rev (bits_from d at) ≡ no e
  turn-no q = let s = event-says d (cursor_at at) (l, k) x rev m h in behind-no m (event rev (bits_from d at)) (sym s.is ∙ ap (said_event d) q)

  pub turn : {v : AcEvent} {next : Cursor} → x ≡ Ok (v, next) → Turn d rev m at v next
  turn {v} {next} q =
      let s = event-says d (cursor_at at) (l, k) x rev m h in
      let b = behind m (event rev (bits_from d at)) (sym s.is ∙ ap (said_event d) q) in
      let good = (event-sound rev (bits_from d at) b.read).0 in
      record {
        e = b.event;
        read = b.read;
        is = b.value;
        bounds = subst (λ (w : AcEvent). Small w.run w.level) b.value (small rev m b.event good);
        inside = subst (InsideEvent d) q s.inside;
        less = subst₂ (λ (i j : ℕ). i < j) (length-bits_from d next.bit_pos) (length-bits_from d at) (event_less rev (bits_from d at) b.event (bits_from d next.bit_pos) b.read);
      }

pub ended_is : (d : List ℕ) (s : State) (next : Cursor) → next.bit_pos ≤ 8 * length d → closed s next ≡ listed_of d (ended s (bits_from d next.bit_pos))
ended_is d s next h = go (eqb s.bad 0)
  where
    go : (t : Bool) → cond t (record { answer = Ok (next, s.spellings); qfs = s.qfs }) (refused_by (Overflow s.bad))
        ≡ listed_of d (cond t (ok (s.qfs, s.spellings) (bits_from d next.bit_pos)) (no (Overflow s.bad)))
    go true = ap {B = ListRead} (λ (c : Cursor). record { answer = Ok (c, s.spellings); qfs = s.qfs }) (place_is d next h)
    go false = refl
