-- The reader of an event list reads the lists whose events land below 64, and is stopped where a list breaks off. Assumes nothing.
use mathlib.Core.Bool.{Bool, true, false, cond}
use mathlib.Core.List.{append_assoc}
use mathlib.Core.Logic.{⊎_elim}
use mathlib.Core.Path.{◌≡◌, refl, sym, ap, subst, subst⁻¹, subst₂, ◌∙◌}
use Prim.Native.Nat.{ℕ, zero, suc, ◌+◌, ◌≤◌, ◌<◌}
use native.Mathlib.Nat.{le_refl}
use native.Mathlib.Omega.{arith}
use lib.Dec.{eqb, ltb}
use lib.ListN.{length, length-append}
use borrow.Author.Tests.{eq-eqb, eqb-true, lt-ltb, ltb-false, ltb-true}
use Rattle.bits.specs.Bits.{Bits}
use Rattle.codes.specs.declared.tcoef_tables.TcoefTable.{TcoefTable}
use Rattle.events.proofs.EitherLaws.{event-long, event-sound, event-takes}
use Rattle.events.specs.Event.{Event, ◌▸◌, event_bits, GoodEvent, last_of, run_of}
use Rattle.events.specs.EventReader.{event}
use Rattle.fields.proofs.ReadLaws.{bind_by, bind_ok, cond-ok, no_ok}
use Rattle.fields.proofs.TakeLaws.{stops_first, then_stops}
use Rattle.fields.specs.Reader.{ok, no, bind}
use Rattle.fields.specs.Stopped.{Stops}
use Rattle.fields.specs.declared.error.TextureParseError.TheVariants.{Overflow}
use Rattle.texture.specs.Events.{Events, final, more, events_bits, GoodEvents, Lands, GoodList, listed}
use Rattle.texture.specs.EventsReader.{events_in, bad, list}

module _ (rev : Bool) (m : TcoefTable) where
  -- ---- landings

  pub lands_bad : (place : ℕ) (es : Events) → Lands m place es → bad m place es ≡ 0
  unfolding Lands bad
  lands_bad place (final e) h = ap (λ (t : Bool). cond t 0 (place + run_of m e)) (lt-ltb (place + run_of m e) 64 h)
  lands_bad place (more e es) h =
      ap (λ (t : Bool). cond t (bad m (place + run_of m e + 1) es) (place + run_of m e)) (lt-ltb (place + run_of m e) 64 h.0)
      ∙ lands_bad (place + run_of m e + 1) es h.1

  pub bad_lands : (place : ℕ) (es : Events) → bad m place es ≡ 0 → Lands m place es
  unfolding Lands bad
  bad_lands place (final e) h = go (ltb (place + run_of m e) 64) refl h
    where
      go : (t : Bool) → ltb (place + run_of m e) 64 ≡ t → cond t 0 (place + run_of m e) ≡ 0 → place + run_of m e < 64
      go true q h = ltb-true (place + run_of m e) 64 q
      go false q h = absurd (omega (arith, ltb-false (place + run_of m e) 64 q))
  bad_lands place (more e es) h = go (ltb (place + run_of m e) 64) refl h (λ h'. bad_lands (place + run_of m e + 1) es h')
    where
      go : (t : Bool) → ltb (place + run_of m e) 64 ≡ t → cond t (bad m (place + run_of m e + 1) es) (place + run_of m e) ≡ 0
          → (bad m (place + run_of m e + 1) es ≡ 0 → Lands m (place + run_of m e + 1) es)
          → (place + run_of m e < 64) × Lands m (place + run_of m e + 1) es
      go true q h next = (ltb-true (place + run_of m e) 64 q, next h)
      go false q h next = absurd (omega (arith, ltb-false (place + run_of m e) 64 q))

  -- ---- the list

  pub events-complete : (es : Events) (n : ℕ) (r : Bits) → GoodEvents rev m es → length (events_bits es ▸ r) ≤ n → events_in rev m n (events_bits es ▸ r) ≡ ok es r
  unfolding GoodEvents events_bits events_in
  events-complete (final e) zero r g h = absurd (omega (arith, length-append (event_bits e) r, event-long e))
  events-complete (final e) (suc n) r g h =
      bind_by _ ((event-takes rev e g.0).reads r)
      ∙ ap (λ (t : Bool). cond t (ok (final e) r) (bind (events_in rev m n r) (λ es r. ok (more e es) r))) g.1
  events-complete (more e es) zero r g h =
      absurd (omega (arith, length-append (event_bits e ▸ events_bits es) r, length-append (event_bits e) (events_bits es), event-long e))
  events-complete (more e es) (suc n) r g h =
      let s : Bits = events_bits es ▸ r in
      let x : (event_bits e ▸ events_bits es) ▸ r ≡ event_bits e ▸ s = append_assoc (event_bits e) (events_bits es) r in
      let len = length-append (event_bits e) s in
      let len' = ap length x in
      ap (events_in rev m (suc n)) x
      ∙ bind_by _ ((event-takes rev e g.0).reads s)
      ∙ ap (λ (t : Bool). cond t (ok (final e) s) (bind (events_in rev m n s) (λ es r. ok (more e es) r))) g.1
      ∙ bind_by _ (events-complete es n r g.2 (omega (arith, event-long e)))

  pub events-sound : (n : ℕ) (b : Bits) (es : Events) (r : Bits) → events_in rev m n b ≡ ok es r → GoodEvents rev m es × (b ≡ events_bits es ▸ r)
  unfolding GoodEvents events_bits events_in
  events-sound zero b es r q = absurd (no_ok q)
  events-sound (suc n) b es r q =
      let x = bind_ok (event rev b) _ q in
      let f = event-sound rev b x.first in
      ⊎_elim (λ w. ends x.got x.rest f.0 f.1 w.0 w.1)
      (λ w.
      let y = bind_ok (events_in rev m n x.rest) (λ es r. ok (more x.got es) r) w.1 in
      goes x.got x.rest f.0 f.1 w.0 y.got y.rest (events-sound n x.rest y.got y.rest y.first) y.then)
      (cond-ok (last_of m x.got) (ok (final x.got) x.rest) (bind (events_in rev m n x.rest) (λ es r. ok (more x.got es) r)) x.then)
    where
      ends : (e : Event) (s : Bits) → GoodEvent rev e → b ≡ event_bits e ▸ s → last_of m e ≡ true → ok (final e) s ≡ ok es r
          → GoodEvents rev m es × (b ≡ events_bits es ▸ r)
      ends e s g eq t z =
          let e₁ : es ≡ final e = cc in
          let e₂ : s ≡ r = cc in
          subst (λ (x : Events). GoodEvents rev m x × (b ≡ events_bits x ▸ r)) (sym e₁)
          ((g, t), eq ∙ ap (λ (k : Bits). event_bits e ▸ k) e₂)

      goes : (e : Event) (s : Bits) → GoodEvent rev e → b ≡ event_bits e ▸ s → last_of m e ≡ false
          → (fs : Events) (u : Bits) → GoodEvents rev m fs × (s ≡ events_bits fs ▸ u) → ok (more e fs) u ≡ ok es r
          → GoodEvents rev m es × (b ≡ events_bits es ▸ r)
      goes e s g eq t fs u h z =
          let e₁ : es ≡ more e fs = cc in
          let e₂ : u ≡ r = cc in
          subst (λ (x : Events). GoodEvents rev m x × (b ≡ events_bits x ▸ r)) (sym e₁) (
            (g, t, h.0),
            eq ∙ ap (λ (k : Bits). event_bits e ▸ k) (h.1 ∙ ap (λ (k : Bits). events_bits fs ▸ k) e₂) ∙ sym (append_assoc (event_bits e) (events_bits fs) r),
          )

  -- ---- the list of a block: the theorems

  pub list-complete : (place : ℕ) (es : Events) (r : Bits) → GoodList rev m place es → list rev m place (events_bits es ▸ r) ≡ ok es r
  unfolding list
  list-complete place es r h =
      bind_by _ (events-complete es (length (events_bits es ▸ r)) r h.0 (le_refl _))
      ∙ ap (λ (t : Bool). cond t (ok es r) (no (Overflow (bad m place es)))) (eq-eqb (bad m place es) 0 (lands_bad place es h.1))

  pub list-sound : (place : ℕ) (b : Bits) {es : Events} {r : Bits} → list rev m place b ≡ ok es r → GoodList rev m place es × (b ≡ events_bits es ▸ r)
  unfolding list
  list-sound place b {es} {r} q =
      let x = bind_ok (events_in rev m (length b) b) _ q in
      ⊎_elim (λ w. good x.got x.rest (events-sound (length b) b x.got x.rest x.first) w.0 w.1) (λ w. absurd (no_ok w.1))
      (cond-ok (eqb (bad m place x.got) 0) (ok x.got x.rest) (no (Overflow (bad m place x.got))) x.then)
    where
      good : (fs : Events) (s : Bits) → GoodEvents rev m fs × (b ≡ events_bits fs ▸ s) → eqb (bad m place fs) 0 ≡ true → ok fs s ≡ ok es r
          → GoodList rev m place es × (b ≡ events_bits es ▸ r)
      good fs s h t z =
          let e₁ : fs ≡ es = cc in
          let e₂ : s ≡ r = cc in
          subst₂ (λ (x : Events) (y : Bits). GoodList rev m place x × (b ≡ events_bits x ▸ y)) e₁ e₂
          ((h.0, bad_lands place fs (eqb-true (bad m place fs) 0 t)), h.1)

  -- ---- where a list breaks off: a bad landing before it is not told

  events_stop : (es : Events) (n : ℕ) (b r : Bits) → GoodEvents rev m es → 0 < length r → events_bits es ≡ b ▸ r → Stops (events_in rev m n b)
  unfolding GoodEvents events_bits events_in
  events_stop es zero b r g l e = tt
  events_stop (final e) (suc n) b r g l q = stops_first (event rev b) _ ((event-takes rev e g.0).stops b r l q)
  events_stop (more e es) (suc n) b r g l q =
      then_stops (event rev) _ (event-takes rev e g.0) (events_bits es) b r l q
      (λ s f. subst⁻¹ (λ (t : Bool). Stops (cond t (ok (final e) s) (bind (events_in rev m n s) (λ es r. ok (more e es) r)))) g.1
      (stops_first (events_in rev m n s) _ (events_stop es n s r g.2 l f)))

  pub list_stops : (place : ℕ) (es : Events) (b r : Bits) → GoodEvents rev m es → 0 < length r → events_bits es ≡ b ▸ r → Stops (list rev m place b)
  unfolding list
  list_stops place es b r g l e = stops_first (events_in rev m (length b) b) _ (events_stop es (length b) b r g l e)

-- a list whose events land below 64 has no more of them than places: each takes one
pub lands_few : (m : TcoefTable) (place : ℕ) (es : Events) → Lands m place es → place + length (listed es) ≤ 64
unfolding Lands listed
lands_few m place (final e) h = omega arith
lands_few m place (more e es) h = let l = lands_few m (place + run_of m e + 1) es h.1 in omega arith
