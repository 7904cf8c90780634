-- The loop over the events of a list that windows settle: what is left to answer stays the same, and the last event ends the places. Assumes nothing.
use mathlib.Core.Bool.{Bool, true, false, cond}
use mathlib.Core.List.{List}
use mathlib.Core.Path.{◌≡◌, refl, sym, ap, ap₂, subst, subst₂, ◌∙◌}
use Prim.Native.Nat.{ℕ, ◌+◌, ◌-◌, ◌*◌, ◌≤◌, ◌<◌}
use native.Mathlib.Omega.{arith}
use lib.Dec.{eqb, leb, ltb}
use lib.IntN.{ℤ, nat_abs, neg_ℤ, pos, ◌-ℤ◌}
use lib.ListN.{get_or, get_or-replicate, length, length-set, set}
use lib.Seq.{get_or-set_other, get_or-set_same}
use borrow.Author.Tests.{leb-true, lt-ltb, ltb-true}
use Rattle.numbers.proofs.Integers.{diff_is, halves}
use Rattle.numbers.proofs.Magnitudes.{abs_neg}
use Rattle.bits.proofs.BitLaws.{length-bits_from}
use Rattle.bits.specs.Bits.{Bits, bits_from}
use Rattle.codes.proofs.FirstBitsLaws.{intra_row, row_small}
use Rattle.codes.specs.Tcoef.{lmax_by, tcoef_intra}
use Rattle.codes.specs.Tcoef as T
use Rattle.codes.specs.declared.tcoef_tables.TcoefTable.TheVariants.{Intra}
use Rattle.events.proofs.EitherLaws.{event-takes}
use Rattle.fields.proofs.ReadLaws.{no_ok}
use Rattle.texture.proofs.LoopLaws.{ended, event_less, rest, rest-last, rest_more, rest-start, small, start_of}
use Rattle.events.specs.Event.{Event, GoodEvent, last_of, level_of, plain, run_of, rvlc, rvlc_escape, signed12, signed_by, spelling_of, type1, type2, type3, value_of}
use Rattle.events.specs.EventReader.{event}
use Rattle.events.specs.Spellings.{no_spellings, one_more, spellings_of}
use Rattle.texture.specs.Events.{Events, listed}
use Rattle.texture.specs.EventsReader.{list}
use Rattle.texture.specs.Inside.{State, gives, put_of}
use Rattle.texture.specs.Places.{places_of, zeros}
use Rattle.fields.specs.Reader.{Res, mapped, no, ok}
use Rattle.events.specs.declared.event.AcEvent.{AcEvent}
use Rattle.events.specs.declared.spelling.Spellings.{Spellings}
use Rattle.window_reader.proofs.EndLaws.{end_some}
use Rattle.window_reader.proofs.PackedLaws.{packs-more, packs-none}
use Rattle.window_reader.specs.Packed.{Packs, weight_of}
use Rattle.window_reader.specs.Told.{EventTold, ListTold, up_to}
use Rattle.window_reader.specs.declared.symbol.EventAt.{EventAt}

-- ---- the level of a good plain event is not 0

signed-not : (s n : ℕ) → 0 < n → 0 < nat_abs (signed_by s n)
signed-not s n h = go (eqb s 1)
  where
    go : (t : Bool) → 0 < nat_abs (cond t (neg_ℤ (pos n)) (pos n))
    go true = omega (arith, abs_neg (pos n))
    go false = h

twelve_not : (v : ℕ) → v < 4096 → (v ≡ 0 → ⊥) → 0 < nat_abs (signed12 v)
twelve_not v h n = go (leb 2048 v) refl
  where
    go : (t : Bool) → leb 2048 v ≡ t → 0 < nat_abs (cond t (pos v -ℤ pos 4096) (pos v))
    go true e = let l = leb-true 2048 v e in let z = pos v -ℤ pos 4096 in omega (arith, halves z, diff_is (pos v) (pos 4096))
    go false e = let l : 0 < v = omega arith in l

pub level-not : (e : Event) → GoodEvent false e → 0 < nat_abs (level_of Intra e)
unfolding GoodEvent level_of
level-not (plain i s) g = signed-not s (T.level_of (intra_row i)) (row_small i g.0).level-pos
level-not (type1 i s) g = signed-not s (T.level_of (intra_row i) + lmax_by tcoef_intra (intra_row i)) (let h = (row_small i g.0).level-pos in omega arith)
level-not (type2 i s) g = signed-not s (T.level_of (intra_row i)) (row_small i g.0).level-pos
level-not (type3 l r v) g = twelve_not v g.2 g.3
level-not (rvlc i s) g = absurd g
level-not (rvlc_escape l r m s) g = absurd g

-- ---- one turn

-- what is known of an event that was told
pub record Turn (d : List ℕ) (at : ℕ) (r : EventAt) : Type 0 where
  pub e : Event
  pub read : event false (bits_from d at) ≡ ok e (bits_from d r.next)
  pub last_is : last_of Intra e ≡ r.last
  pub run_is : run_of Intra e ≡ r.run
  pub level-is : level_of Intra e ≡ r.level
  pub good : GoodEvent false e
  pub weighs : r.spelled ≡ weight_of (spelling_of e)
  pub run_le : r.run ≤ 1024
  pub level-le : nat_abs r.level ≤ 2047
  pub level-pos : 0 < nat_abs r.level
  pub inside : r.next ≤ 8 * length d
  pub less : 8 * length d - r.next < 8 * length d - at

pub turn : (d : List ℕ) (at : ℕ) (r : EventAt) → EventTold d at r → Turn d at r
turn d at r t =
    let read : event false (bits_from d at) ≡ ok t.event (bits_from d r.next) = ap (event false) t.bits ∙ (event-takes false t.event t.good).reads (bits_from d r.next) in
    let run_is : run_of Intra t.event ≡ r.run = ap (λ (v : AcEvent). v.run) t.says in
    let level-is : level_of Intra t.event ≡ r.level = ap (λ (v : AcEvent). v.level) t.says in
    let s = small false Intra t.event t.good in
    record {
      e = t.event;
      read = read;
      last_is = ap (λ (v : AcEvent). v.last) t.says;
      run_is = run_is;
      level-is = level-is;
      good = t.good;
      weighs = t.weighs;
      run_le = subst (λ (n : ℕ). n ≤ 1024) run_is s.run_le;
      level-le = subst (λ (z : ℤ). nat_abs z ≤ 2047) level-is s.level-le;
      level-pos = subst (λ (z : ℤ). 0 < nat_abs z) level-is (level-not t.event t.good);
      inside = t.inside;
      less = subst₂ (λ (i j : ℕ). i < j) (length-bits_from d r.next) (length-bits_from d at) (event_less false (bits_from d at) t.event (bits_from d r.next) read);
    }

-- ---- the loop

abbrev st : ℕ → Spellings → List ℤ → State
st place n qfs = record { place = place; bad = 0; spellings = n; qfs = qfs }

-- where a list stands that began at a position: all places from the next on are 0, and each event that was counted took one
pub record Stands (d : List ℕ) (start at place spelled : ℕ) (qfs : List ℤ) : Type 0 where
  pub inside : at ≤ 8 * length d
  pub place-pos : 1 ≤ place
  pub place-le : place ≤ 64
  pub long : length qfs ≡ 64
  pub beyond : (k : ℕ) → place ≤ k → k < 64 → get_or qfs k (pos 0) ≡ pos 0
  pub counts : Spellings
  pub packs : Packs spelled counts place
  pub same : rest false Intra (start_of 1) (bits_from d start) ≡ rest false Intra (st place counts qfs) (bits_from d at)

pub stands_first : (d : List ℕ) (start : ℕ) (qfs : List ℤ) → start ≤ 8 * length d → qfs ≡ zeros → Stands d start start 1 0 qfs
stands_first d start qfs h q =
    record {
      inside = h;
      place-pos = omega arith;
      place-le = omega arith;
      long = ap length q;
      beyond = λ k a b. ap (λ (xs : List ℤ). get_or xs k (pos 0)) q ∙ get_or-replicate 64 k (pos 0) (pos 0) b;
      counts = no_spellings;
      packs = packs-none 1;
      same = ap (λ (xs : List ℤ). rest false Intra (st 1 no_spellings xs) (bits_from d start)) (sym q);
    }

-- a list that was read, by its places and its counts
record Listed (x : Res Events) (qfs : List ℤ) (n : Spellings) (r : Bits) : Type 0 where
  pub events : Events
  pub read : x ≡ ok events r
  pub places_are : qfs ≡ places_of Intra 1 events
  pub counts_are : n ≡ spellings_of (listed events)

listed_by_lem : (x : Res Events) {qfs : List ℤ} {n : Spellings} {r : Bits} → mapped (gives Intra 1) x ≡ ok (qfs, n) r → Listed x qfs n r
listed_by_lem (ok es s) {qfs} {n} {r} q =
    let a : ◌≡◌ {A = List ℤ × Spellings} (places_of Intra 1 es, spellings_of (listed es)) (qfs, n) = cc in
    let b : s ≡ r = cc in
    record {
      events = es;
      read = ap (λ (z : Bits). ok es z) b;
      places_are = sym (ap (λ (p : List ℤ × Spellings). p.0) a);
      counts_are = sym (ap (λ (p : List ℤ × Spellings). p.1) a);
    }
listed_by_lem (no e) q = absurd (no_ok q)

module _ (d : List ℕ) (start at place spelled : ℕ) (qfs : List ℤ) (s : Stands d start at place spelled qfs) (r : EventAt) (t : Turn d at r) (low : place + r.run < 64) where
  -- the event in its place, and counted
  abbrev counted : Spellings
  counted = one_more (spelling_of t.e) s.counts

  abbrev valued : ℕ → ℤ → AcEvent
  valued run level = record { last = last_of Intra t.e; run = run; level = level; spelling = spelling_of t.e }

  put_is : put_of (st place s.counts qfs) (value_of Intra t.e) ≡ st (place + r.run + 1) counted (set qfs (place + r.run) r.level)
  put_is =
      ap₂ (λ (run : ℕ) (level : ℤ). put_of (st place s.counts qfs) (valued run level)) t.run_is t.level-is
      ∙ ap (λ (u : Bool). cond u (st (place + r.run + 1) counted (set qfs (place + r.run) r.level)) (record { place = place; bad = place + r.run; spellings = s.counts; qfs = qfs })) (lt-ltb (place + r.run) 64 low)

  packs_then : (most : ℕ) → place + 1 ≤ most → Packs (spelled + r.spelled) counted most
  packs_then most h = let p = packs-more t.e t.good t.weighs s.packs in record { is = p.is; none = p.none; few = omega (arith, p.few) }

  after-zero : (k : ℕ) → place + r.run < k → k < 64 → get_or (set qfs (place + r.run) r.level) k (pos 0) ≡ pos 0
  after-zero k a b = get_or-set_other qfs (place + r.run) k r.level (pos 0) (λ (e : k ≡ place + r.run). omega arith) ∙ s.beyond k (omega arith) b

  pub stands_on : r.last ≡ false → Stands d start r.next (place + r.run + 1) (spelled + r.spelled) (set qfs (place + r.run) r.level)
  stands_on l =
      record {
        inside = t.inside;
        place-pos = omega arith;
        place-le = omega arith;
        long = length-set qfs (place + r.run) r.level ∙ s.long;
        beyond = λ k a b. after-zero k (omega arith) b;
        counts = counted;
        packs = packs_then (place + r.run + 1) (omega arith);
        same = s.same ∙ rest_more false Intra (st place s.counts qfs) (bits_from d at) t.e (bits_from d r.next) t.read (t.last_is ∙ l)
            ∙ ap (λ (x : State). rest false Intra x (bits_from d r.next)) put_is;
      }

  pub stands_last : r.last ≡ true → ListTold d start (up_to r.next (spelled + r.spelled)) (set qfs (place + r.run) r.level)
  stands_last l =
      let x =
      listed_by_lem (list false Intra 1 (bits_from d start))
      (sym (rest-start false Intra 1 (bits_from d start)) ∙ s.same
      ∙ rest-last false Intra (st place s.counts qfs) (bits_from d at) t.e (bits_from d r.next) t.read (t.last_is ∙ l)
      ∙ ap (λ (x : State). ended x (bits_from d r.next)) put_is) in
      record {
        events = x.events;
        read = x.read;
        places_are = x.places_are;
        packs = subst (λ (n : Spellings). Packs (spelled + r.spelled) n 64) x.counts_are (packs_then 64 (omega arith));
        inside = t.inside;
        ends = sym (end_some (set qfs (place + r.run) r.level) (place + r.run) (omega (arith, s.place-pos)) low
            (λ q. let z : nat_abs r.level ≡ 0 = ap nat_abs (sym (get_or-set_same qfs (place + r.run) r.level (pos 0) (omega (arith, s.long))) ∙ q) in omega (arith, t.level-pos)));
      }

-- ---- one turn of the code

-- an event that was put at a place and did not end the list, or did
module _ (d : List ℕ) (start at place spelled : ℕ) (qfs : List ℤ) (s : Stands d start at place spelled qfs) (r : EventAt) (t : Turn d at r) (after : ℕ) (qfs' : List ℤ)
    (is : after ≡ cond (ltb (place + r.run) 64) (place + r.run + 1) 0)
    (are : qfs' ≡ cond (ltb (place + r.run) 64) (set qfs (place + r.run) r.level) qfs) (some : after ≡ 0 → ⊥) where
  low : place + r.run < 64
  low = go (ltb (place + r.run) 64) refl is
    where
      go : (b : Bool) → ltb (place + r.run) 64 ≡ b → after ≡ cond b (place + r.run + 1) 0 → place + r.run < 64
      go true e q = ltb-true (place + r.run) 64 e
      go false e q = absurd (some q)

  after_is : after ≡ place + r.run + 1
  after_is = is ∙ ap (λ (b : Bool). cond b (place + r.run + 1) 0) (lt-ltb (place + r.run) 64 low)

  places_are : qfs' ≡ set qfs (place + r.run) r.level
  places_are = are ∙ ap (λ (b : Bool). cond b (set qfs (place + r.run) r.level) qfs) (lt-ltb (place + r.run) 64 low)

  pub put_on : r.last ≡ false → Stands d start r.next after (spelled + r.spelled) qfs'
  put_on l = subst₂ (λ (n : ℕ) (xs : List ℤ). Stands d start r.next n (spelled + r.spelled) xs) (sym after_is) (sym places_are) (stands_on d start at place spelled qfs s r t low l)

  pub put_last : r.last ≡ true → ListTold d start (up_to r.next (spelled + r.spelled)) qfs'
  put_last l = subst (ListTold d start (up_to r.next (spelled + r.spelled))) (sym places_are) (stands_last d start at place spelled qfs s r t low l)
