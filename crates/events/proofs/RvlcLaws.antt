-- The reader of one reversible event reads its grammar, and is stopped where an event breaks off. Assumes nothing.
use mathlib.Core.Bool.{Bool, cond, false, true}
use mathlib.Core.List.{append_assoc}
use mathlib.Core.Logic.{⊎_elim}
use mathlib.Core.Path.{◌≡◌, ◌∙◌, ap, subst, sym}
use Prim.Native.Nat.{◌<◌, ◌≤◌, ℕ}
use native.Mathlib.Omega.{arith}
use lib.Dec.{eqb, lit<}
use lib.ListN.{length}
use borrow.Author.Tests.{eqb-false, eqb-true, ne_eqb}
use Rattle.bits.specs.Bits.{Bits, bin}
use Rattle.codes.proofs.PrefixFree.{rvlc_prefix_free, rvlc-rows}
use Rattle.codes.specs.Rvlc.{rvlc_codes, rvlc_lens}
use Rattle.events.specs.Event.{Event, GoodEvent, ◌▸◌, event_bits, plain, rvlc, rvlc_bits, rvlc_escape, rvlc_opening, type1, type2, type3}
use Rattle.events.specs.EventReader.{sign, rvlc_sign, rvlc_delimiter, rvlc_magnitude, rvlc_run, rvlc_escaped, rvlc_event}
use Rattle.events.specs.declared.event.RowForm.TheVariants.{Reversible}
use Rattle.events.proofs.EventLaws.{sign-takes}
use Rattle.fields.proofs.ReadLaws.{bind_ok, code-sound, cond-ok, field-sound, marker-sound, no_ok}
use Rattle.fields.proofs.TakeLaws.{Takes, code-takes, else_takes, field-takes, last-takes, marker-takes, then_takes}
use Rattle.fields.specs.Reader.{ok, no, bind, field, code, marker}
use Rattle.fields.specs.declared.error.TextureParseError.TheVariants.{InvalidTcoef, EscapeMarkerBitMissing, ReservedEscapeLevel, RvlcEscapeDelimiterMissing}

all : 170 ≤ length rvlc_codes
all = let n = rvlc-rows.0 in omega arith

-- ---- an escape, after its code

pub record RvlcEscaped (b : Bits) (e : Event) (r : Bits) : Type 0 where
  pub last : ℕ
  pub run : ℕ
  pub magnitude : ℕ
  pub sign : ℕ
  pub last-lt : last < 2
  pub run_lt : run < 64
  pub magnitude_lt : magnitude < 2048
  pub sign_lt : sign < 2
  pub not-zero : magnitude ≡ 0 → ⊥
  pub is : e ≡ rvlc_escape last run magnitude sign
  pub bits : b ≡ bin 1 last ▸ bin 6 run ▸ bin 1 1 ▸ bin 11 magnitude ▸ bin 1 1 ▸ bin 4 0 ▸ bin 1 sign ▸ r

pub rvlc-escaped-sound : (b : Bits) {e : Event} {r : Bits} → rvlc_escaped b ≡ ok e r → RvlcEscaped b e r
unfolding rvlc_escaped rvlc_run rvlc_magnitude rvlc_delimiter rvlc_sign
rvlc-escaped-sound b {e} {r} q =
    let x₁ = bind_ok (field 1 b) _ q in
    let x₂ = bind_ok (field 6 x₁.rest) _ x₁.then in
    let x₃ = bind_ok (marker EscapeMarkerBitMissing x₂.rest) _ x₂.then in
    let x₄ = bind_ok (field 11 x₃.rest) _ x₃.then in
    let x₅ = bind_ok (marker EscapeMarkerBitMissing x₄.rest) _ x₄.then in
    let x₆ = bind_ok (field 4 x₅.rest) _ x₅.then in
    let f₁ = field-sound 1 b x₁.first in
    let f₂ = field-sound 6 x₁.rest x₂.first in
    let f₃ = marker-sound EscapeMarkerBitMissing x₂.rest x₃.first in
    let f₄ = field-sound 11 x₃.rest x₄.first in
    let f₅ = marker-sound EscapeMarkerBitMissing x₄.rest x₅.first in
    let f₆ = field-sound 4 x₅.rest x₆.first in
    ⊎_elim
    (λ w.
    delimited x₁.got x₂.got x₄.got x₆.rest f₁.0 f₂.0 f₄.0 w.1
    (f₁.1 ∙ ap (λ (k : Bits). bin 1 x₁.got ▸ k) (f₂.1 ∙ ap (λ (k : Bits). bin 6 x₂.got ▸ k) (f₃ ∙ ap (λ (k : Bits). bin 1 1 ▸ k) (f₄.1 ∙ ap (λ (k : Bits). bin 11 x₄.got ▸ k) (f₅ ∙ ap (λ (k : Bits). bin 1 1 ▸ k) (f₆.1 ∙ ap (λ (i : ℕ). bin 4 i ▸ x₆.rest) (eqb-true x₆.got 0 w.0))))))))
    (λ w. absurd (no_ok w.1))
    (cond-ok (eqb x₆.got 0) (bind (field 1 x₆.rest) (λ s r. cond (eqb x₄.got 0) (no ReservedEscapeLevel) (ok (rvlc_escape x₁.got x₂.got x₄.got s) r))) (no (RvlcEscapeDelimiterMissing x₆.got)) x₆.then)
  where
    ends : (l n m s : ℕ) (u : Bits) → l < 2 → n < 64 → m < 2048 → s < 2
        → cond (eqb m 0) (no ReservedEscapeLevel) (ok (rvlc_escape l n m s) u) ≡ ok e r
        → b ≡ bin 1 l ▸ bin 6 n ▸ bin 1 1 ▸ bin 11 m ▸ bin 1 1 ▸ bin 4 0 ▸ bin 1 s ▸ u → RvlcEscaped b e r
    ends l n m s u h₁ h₂ h₃ h₄ q eq =
        ⊎_elim (λ w. absurd (no_ok w.1))
        (λ w.
        let z : ok (rvlc_escape l n m s) u ≡ ok e r = w.1 in
        let e₁ : e ≡ rvlc_escape l n m s = cc in
        let e₂ : u ≡ r = cc in
        record {
          last = l;
          run = n;
          magnitude = m;
          sign = s;
          last-lt = h₁;
          run_lt = h₂;
          magnitude_lt = h₃;
          sign_lt = h₄;
          not-zero = eqb-false m 0 w.0;
          is = e₁;
          bits = subst (λ (k : Bits). b ≡ bin 1 l ▸ bin 6 n ▸ bin 1 1 ▸ bin 11 m ▸ bin 1 1 ▸ bin 4 0 ▸ bin 1 s ▸ k) e₂ eq;
        })
        (cond-ok (eqb m 0) (no ReservedEscapeLevel) (ok (rvlc_escape l n m s) u) q)

    delimited : (l n m : ℕ) (u : Bits) → l < 2 → n < 64 → m < 2048
        → bind (field 1 u) (λ s r. cond (eqb m 0) (no ReservedEscapeLevel) (ok (rvlc_escape l n m s) r)) ≡ ok e r
        → b ≡ bin 1 l ▸ bin 6 n ▸ bin 1 1 ▸ bin 11 m ▸ bin 1 1 ▸ bin 4 0 ▸ u → RvlcEscaped b e r
    delimited l n m u h₁ h₂ h₃ q eq =
        let x = bind_ok (field 1 u) (λ s r. cond (eqb m 0) (no ReservedEscapeLevel) (ok (rvlc_escape l n m s) r)) q in
        let f = field-sound 1 u x.first in
        ends l n m x.got x.rest h₁ h₂ h₃ f.0 x.then
        (subst (λ (k : Bits). b ≡ bin 1 l ▸ bin 6 n ▸ bin 1 1 ▸ bin 11 m ▸ bin 1 1 ▸ bin 4 0 ▸ k) f.1 eq)

escaped-takes : (l n m s : ℕ) → l < 2 → n < 64 → m < 2048 → s < 2 → (m ≡ 0 → ⊥)
    → Takes rvlc_escaped (bin 1 l ▸ bin 6 n ▸ bin 1 1 ▸ bin 11 m ▸ bin 1 1 ▸ bin 4 0 ▸ bin 1 s) (rvlc_escape l n m s)
unfolding rvlc_escaped rvlc_run rvlc_magnitude rvlc_delimiter rvlc_sign
escaped-takes l n m s h₁ h₂ h₃ h₄ h₅ =
    then_takes (field 1) _ (field-takes 1 l h₁)
    (then_takes (field 6) _ (field-takes 6 n h₂)
    (then_takes (marker EscapeMarkerBitMissing) _ (marker-takes EscapeMarkerBitMissing)
    (then_takes (field 11) _ (field-takes 11 m h₃)
    (then_takes (marker EscapeMarkerBitMissing) _ (marker-takes EscapeMarkerBitMissing)
    (then_takes (field 4) _ (field-takes 4 0 (lit< tt))
    (last-takes (field 1) _ (field-takes 1 s h₄)
    (λ r. ap (λ (x : Bool). cond x (no ReservedEscapeLevel) (ok (rvlc_escape l n m s) r)) (ne_eqb m 0 h₅))))))))

-- ---- an event

row-takes : (i : ℕ) (x : Bits) (e : Event) → i < 170 → Takes (λ b. cond (eqb i 169) (rvlc_escaped b) (sign Reversible i b)) x e → Takes rvlc_event (rvlc_bits i ▸ x) e
unfolding rvlc_event
row-takes i x e h t = then_takes (code rvlc_codes rvlc_lens 16 170 InvalidTcoef) _ (code-takes rvlc_codes rvlc_lens 16 170 InvalidTcoef rvlc_prefix_free all i h) t

pub rvlc-takes : (e : Event) → GoodEvent true e → Takes rvlc_event (event_bits e) e
unfolding event_bits GoodEvent
rvlc-takes (plain i s) g = absurd g
rvlc-takes (type1 i s) g = absurd g
rvlc-takes (type2 i s) g = absurd g
rvlc-takes (type3 l n v) g = absurd g
rvlc-takes (rvlc i s) g = row-takes i (bin 1 s) (rvlc i s) (omega arith) (else_takes rvlc_escaped (sign Reversible i) (eqb i 169) (ne_eqb i 169 (λ z. omega arith)) (sign-takes Reversible i s g.1))
rvlc-takes (rvlc_escape l n m s) g = row-takes 169 _ (rvlc_escape l n m s) (lit< tt) (escaped-takes l n m s g.0 g.1 g.2 g.3 g.4)

pub rvlc-sound : (b : Bits) {e : Event} {r : Bits} → rvlc_event b ≡ ok e r → GoodEvent true e × (b ≡ event_bits e ▸ r)
unfolding rvlc_event sign GoodEvent event_bits
rvlc-sound b {e} {r} q =
    let x = bind_ok (code rvlc_codes rvlc_lens 16 170 InvalidTcoef b) _ q in
    let f = code-sound rvlc_codes rvlc_lens 16 170 InvalidTcoef b x.first in
    ⊎_elim
    (λ w. long x.rest (f.1 ∙ ap (λ (i : ℕ). rvlc_bits i ▸ x.rest) (eqb-true x.got 169 w.0)) (rvlc-escaped-sound x.rest w.1))
    (λ w. short x.got x.rest f.0 f.1 w.0 w.1)
    (cond-ok (eqb x.got 169) (rvlc_escaped x.rest) (bind (field 1 x.rest) (λ s r. ok (rvlc x.got s) r)) x.then)
  where
    long : (s : Bits) → b ≡ rvlc_opening ▸ s → RvlcEscaped s e r → GoodEvent true e × (b ≡ event_bits e ▸ r)
    long s h w =
        subst (λ (x : Event). GoodEvent true x × (b ≡ event_bits x ▸ r)) (sym w.is)
        ((w.last-lt, w.run_lt, w.magnitude_lt, w.sign_lt, w.not-zero), h ∙ ap (λ (k : Bits). rvlc_opening ▸ k) w.bits ∙ simp append_assoc)

    short : (i : ℕ) (s : Bits) → i < 170 → b ≡ rvlc_bits i ▸ s → eqb i 169 ≡ false
        → bind (field 1 s) (λ s r. ok (rvlc i s) r) ≡ ok e r → GoodEvent true e × (b ≡ event_bits e ▸ r)
    short i s h eq t q =
        let y = bind_ok (field 1 s) (λ s r. ok (rvlc i s) r) q in
        let g = field-sound 1 s y.first in
        let z : ok (rvlc i y.got) y.rest ≡ ok e r = y.then in
        let e₁ : e ≡ rvlc i y.got = cc in
        let e₂ : y.rest ≡ r = cc in
        let n = eqb-false i 169 t in
        let lt : i < 169 = omega arith in
        subst (λ (x : Event). GoodEvent true x × (b ≡ event_bits x ▸ r)) (sym e₁)
        ((lt, g.0), eq ∙ ap (λ (k : Bits). rvlc_bits i ▸ k) (g.1 ∙ ap (λ (k : Bits). bin 1 y.got ▸ k) e₂) ∙ sym (append_assoc (rvlc_bits i) (bin 1 y.got) r))
