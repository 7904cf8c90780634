-- The reader of one plain event reads its grammar, and is stopped where an event breaks off. Assumes nothing.
use mathlib.Core.Bool.{Bool, false, cond}
use mathlib.Core.List.{append_assoc}
use mathlib.Core.Logic.{⊎_elim}
use mathlib.Core.Path.{◌≡◌, refl, sym, ap, subst, ◌∙◌}
use Prim.Native.Nat.{ℕ, zero, suc, ◌+◌, ◌≤◌, ◌<◌}
use native.Mathlib.Omega.{arith}
use lib.Dec.{eqb, lit<}
use lib.ListN.{length}
use borrow.Author.Tests.{ne_eqb, eqb-true, eqb-false}
use Rattle.bits.specs.Bits.{Bits, bin}
use Rattle.codes.proofs.PrefixFree.{vlc_prefix_free, vlc_rows}
use Rattle.codes.specs.Tcoef.{vlc_codes, vlc_lens}
use Rattle.events.specs.Event.{Event, plain, type1, type2, type3, rvlc, rvlc_escape, vlc_bits, escape, event_bits, GoodEvent, ◌▸◌}
use Rattle.events.specs.EventReader.{spelled, sign, signed, level, run_and_level, longer, fixed, escaped, plain_event}
use Rattle.events.specs.declared.event.RowForm.{RowForm}
use Rattle.events.specs.declared.event.RowForm.TheVariants.{Plain, Type1, Type2}
use Rattle.fields.proofs.ReadLaws.{bind_ok, cond-ok, no_ok, field-sound, marker-sound, code-sound}
use Rattle.fields.proofs.TakeLaws.{Takes, code-takes, else_takes, field-takes, last-takes, marker-takes, then_takes}
use Rattle.fields.specs.Reader.{ok, no, bind, field, code, marker}
use Rattle.fields.specs.declared.error.TextureParseError.TheVariants.{InvalidTcoef, EscapeMarkerBitMissing, ReservedEscapeLevel}

pub record Signed (k : RowForm) (b : Bits) (e : Event) (r : Bits) : Type 0 where
  pub row : ℕ
  pub sign : ℕ
  pub row_lt : row < 102
  pub sign_lt : sign < 2
  pub is : e ≡ spelled k row sign
  pub bits : b ≡ vlc_bits row ▸ bin 1 sign ▸ r

pub signed-sound : (k : RowForm) (b : Bits) {e : Event} {r : Bits} → signed k b ≡ ok e r → Signed k b e r
unfolding signed sign
signed-sound k b {e} {r} q =
    let x = bind_ok (code vlc_codes vlc_lens 13 102 InvalidTcoef b) _ q in
    let y = bind_ok (field 1 x.rest) _ x.then in
    let z : ok (spelled k x.got y.got) y.rest ≡ ok e r = y.then in
    let f = field-sound 1 x.rest y.first in
    let g = code-sound vlc_codes vlc_lens 13 102 InvalidTcoef b x.first in
    let e₁ : e ≡ spelled k x.got y.got = cc in
    let e₂ : y.rest ≡ r = cc in
    record {
      row = x.got;
      sign = y.got;
      row_lt = g.0;
      sign_lt = f.0;
      is = e₁;
      bits = g.1 ∙ ap (λ (k : Bits). vlc_bits x.got ▸ k) (f.1 ∙ ap (λ (k : Bits). bin 1 y.got ▸ k) e₂);
    }

enough : 102 ≤ length vlc_codes
enough = let n = vlc_rows.0 in omega arith

every : 103 ≤ length vlc_codes
every = let n = vlc_rows.0 in omega arith

pub sign-takes : (k : RowForm) (i s : ℕ) → s < 2 → Takes (sign k i) (bin 1 s) (spelled k i s)
unfolding sign
sign-takes k i s h = last-takes (field 1) _ (field-takes 1 s h) (λ r. refl)

signed-takes : (k : RowForm) (i s : ℕ) → i < 102 → s < 2 → Takes (signed k) (vlc_bits i ▸ bin 1 s) (spelled k i s)
unfolding signed
signed-takes k i s h l = then_takes (code vlc_codes vlc_lens 13 102 InvalidTcoef) _ (code-takes vlc_codes vlc_lens 13 102 InvalidTcoef vlc_prefix_free enough i h) (sign-takes k i s l)

-- ---- type 3

pub record Fixed (b : Bits) (e : Event) (r : Bits) : Type 0 where
  pub last : ℕ
  pub run : ℕ
  pub level : ℕ
  pub last-lt : last < 2
  pub run_lt : run < 64
  pub level-lt : level < 4096
  pub not-zero : level ≡ 0 → ⊥
  pub not_least : level ≡ 2048 → ⊥
  pub is : e ≡ type3 last run level
  pub bits : b ≡ bin 1 last ▸ bin 6 run ▸ bin 1 1 ▸ bin 12 level ▸ bin 1 1 ▸ r

pub fixed-sound : (b : Bits) {e : Event} {r : Bits} → fixed b ≡ ok e r → Fixed b e r
unfolding fixed run_and_level level
fixed-sound b {e} {r} q =
    let x₁ = bind_ok (field 1 b) _ q in
    let x₂ = bind_ok (field 6 x₁.rest) _ x₁.then in
    let x₃ = bind_ok (marker EscapeMarkerBitMissing x₂.rest) _ x₂.then in
    let x₄ = bind_ok (field 12 x₃.rest) _ x₃.then in
    let x₅ = bind_ok (marker EscapeMarkerBitMissing x₄.rest) _ x₄.then in
    let f₁ = field-sound 1 b x₁.first in
    let f₂ = field-sound 6 x₁.rest x₂.first in
    let f₃ = marker-sound EscapeMarkerBitMissing x₂.rest x₃.first in
    let f₄ = field-sound 12 x₃.rest x₄.first in
    let f₅ = marker-sound EscapeMarkerBitMissing x₄.rest x₅.first in
    ends x₁.got x₂.got x₄.got x₅.rest f₁.0 f₂.0 f₄.0 x₅.then
    (f₁.1 ∙ ap (λ (k : Bits). bin 1 x₁.got ▸ k) (f₂.1 ∙ ap (λ (k : Bits). bin 6 x₂.got ▸ k) (f₃ ∙ ap (λ (k : Bits). bin 1 1 ▸ k) (f₄.1 ∙ ap (λ (k : Bits). bin 12 x₄.got ▸ k) f₅))))
  where
    ends : (l n v : ℕ) (s : Bits) → l < 2 → n < 64 → v < 4096
        → cond (eqb v 0) (no ReservedEscapeLevel) (cond (eqb v 2048) (no ReservedEscapeLevel) (ok (type3 l n v) s)) ≡ ok e r
        → b ≡ bin 1 l ▸ bin 6 n ▸ bin 1 1 ▸ bin 12 v ▸ bin 1 1 ▸ s → Fixed b e r
    ends l n v s h₁ h₂ h₃ q eq =
        ⊎_elim (λ w. absurd (no_ok w.1))
        (λ w. ⊎_elim (λ u. absurd (no_ok u.1))
        (λ u.
        let z : ok (type3 l n v) s ≡ ok e r = u.1 in
        let e₁ : e ≡ type3 l n v = cc in
        let e₂ : s ≡ r = cc in
        record {
          last = l;
          run = n;
          level = v;
          last-lt = h₁;
          run_lt = h₂;
          level-lt = h₃;
          not-zero = eqb-false v 0 w.0;
          not_least = eqb-false v 2048 u.0;
          is = e₁;
          bits = subst (λ (k : Bits). b ≡ bin 1 l ▸ bin 6 n ▸ bin 1 1 ▸ bin 12 v ▸ bin 1 1 ▸ k) e₂ eq;
        })
        (cond-ok (eqb v 2048) (no ReservedEscapeLevel) (ok (type3 l n v) s) w.1))
        (cond-ok (eqb v 0) (no ReservedEscapeLevel) (cond (eqb v 2048) (no ReservedEscapeLevel) (ok (type3 l n v) s)) q)

fixed-takes : (l n v : ℕ) → l < 2 → n < 64 → v < 4096 → (v ≡ 0 → ⊥) → (v ≡ 2048 → ⊥)
    → Takes fixed (bin 1 l ▸ bin 6 n ▸ bin 1 1 ▸ bin 12 v ▸ bin 1 1) (type3 l n v)
unfolding fixed run_and_level level
fixed-takes l n v h₁ h₂ h₃ h₄ h₅ =
    then_takes (field 1) _ (field-takes 1 l h₁)
    (then_takes (field 6) _ (field-takes 6 n h₂)
    (then_takes (marker EscapeMarkerBitMissing) _ (marker-takes EscapeMarkerBitMissing)
    (then_takes (field 12) _ (field-takes 12 v h₃)
    (last-takes (marker EscapeMarkerBitMissing) _ (marker-takes EscapeMarkerBitMissing) fine))))
  where
    fine : (r : Bits) → cond (eqb v 0) (no ReservedEscapeLevel) (cond (eqb v 2048) (no ReservedEscapeLevel) (ok (type3 l n v) r)) ≡ ok (type3 l n v) r
    fine r =
        ap (λ (x : Bool). cond x (no ReservedEscapeLevel) (cond (eqb v 2048) (no ReservedEscapeLevel) (ok (type3 l n v) r))) (ne_eqb v 0 h₄)
        ∙ ap (λ (x : Bool). cond x (no ReservedEscapeLevel) (ok (type3 l n v) r)) (ne_eqb v 2048 h₅)

-- ---- an escape, after its code

two : (c : ℕ) (x : Bits) → c < 2 → bin 2 (2 + c) ▸ x ≡ bin 1 1 ▸ bin 1 c ▸ x
unfolding bin
two zero x h = refl
two (suc zero) x h = refl
two (suc (suc c)) x h = absurd (omega arith)

-- 0, or 1 and a bit more
type_1_takes : (i s : ℕ) → i < 102 → s < 2 → Takes escaped (bin 1 0 ▸ vlc_bits i ▸ bin 1 s) (type1 i s)
unfolding escaped
type_1_takes i s h l = then_takes (field 1) _ (field-takes 1 0 (lit< tt)) (signed-takes Type1 i s h l)

longer-takes : (c : ℕ) (x : Bits) (e : Event) → c < 2 → Takes (λ b. cond (eqb c 0) (signed Type2 b) (fixed b)) x e → Takes escaped (bin 2 (2 + c) ▸ x) e
unfolding escaped longer
longer-takes c x e h t =
    subst (λ (b : Bits). Takes escaped b e) (sym (two c x h))
    (then_takes (field 1) _ (field-takes 1 1 (lit< tt)) (then_takes (field 1) _ (field-takes 1 c h) t))

-- what follows the escape code of an event
abbrev Escaped : Bits → Event → Bits → Type 0
Escaped b e r = GoodEvent false e × (escape ▸ b ≡ event_bits e ▸ r)

by_1 : {b : Bits} {e : Event} {r : Bits} (s : Bits) → b ≡ bin 1 0 ▸ s → Signed Type1 s e r → Escaped b e r
unfolding GoodEvent event_bits
by_1 {b} {e} {r} s h w =
    subst (λ (x : Event). GoodEvent false x × (escape ▸ b ≡ event_bits x ▸ r)) (sym w.is)
    ((w.row_lt, w.sign_lt), ap (λ (k : Bits). escape ▸ k) (h ∙ ap (λ (k : Bits). bin 1 0 ▸ k) w.bits) ∙ simp append_assoc)

by_2 : {b : Bits} {e : Event} {r : Bits} (s : Bits) → b ≡ bin 1 1 ▸ bin 1 0 ▸ s → Signed Type2 s e r → Escaped b e r
unfolding GoodEvent event_bits
by_2 {b} {e} {r} s h w =
    subst (λ (x : Event). GoodEvent false x × (escape ▸ b ≡ event_bits x ▸ r)) (sym w.is)
    ((w.row_lt, w.sign_lt), ap (λ (k : Bits). escape ▸ k) (h ∙ sym (two 0 s (lit< tt)) ∙ ap (λ (k : Bits). bin 2 2 ▸ k) w.bits) ∙ simp append_assoc)

by_3 : {b : Bits} {e : Event} {r : Bits} (s : Bits) → b ≡ bin 1 1 ▸ bin 1 1 ▸ s → Fixed s e r → Escaped b e r
unfolding GoodEvent event_bits
by_3 {b} {e} {r} s h w =
    subst (λ (x : Event). GoodEvent false x × (escape ▸ b ≡ event_bits x ▸ r)) (sym w.is) (
      (w.last-lt, w.run_lt, w.level-lt, w.not-zero, w.not_least),
      ap (λ (k : Bits). escape ▸ k) (h ∙ sym (two 1 s (lit< tt)) ∙ ap (λ (k : Bits). bin 2 3 ▸ k) w.bits) ∙ simp append_assoc,
    )

escaped-sound : (b : Bits) {e : Event} {r : Bits} → escaped b ≡ ok e r → Escaped b e r
unfolding escaped longer
escaped-sound b {e} {r} q =
    let x = bind_ok (field 1 b) _ q in
    let f = field-sound 1 b x.first in
    ⊎_elim (λ w. by_1 x.rest (f.1 ∙ ap (λ (i : ℕ). bin 1 i ▸ x.rest) (eqb-true x.got 0 w.0)) (signed-sound Type1 x.rest w.1))
    (λ w. more x.got x.rest f.0 f.1 w.0 w.1)
    (cond-ok (eqb x.got 0) (signed Type1 x.rest) (bind (field 1 x.rest) (λ c r. cond (eqb c 0) (signed Type2 r) (fixed r))) x.then)
  where
    one : (i : ℕ) → i < 2 → (i ≡ 0 → ⊥) → i ≡ 1
    one i h n = omega arith

    more : (a : ℕ) (s : Bits) → a < 2 → b ≡ bin 1 a ▸ s → eqb a 0 ≡ false
        → bind (field 1 s) (λ c r. cond (eqb c 0) (signed Type2 r) (fixed r)) ≡ ok e r → Escaped b e r
    more a s h eq t q =
        let y = bind_ok (field 1 s) (λ c r. cond (eqb c 0) (signed Type2 r) (fixed r)) q in
        let g = field-sound 1 s y.first in
        let first : b ≡ bin 1 1 ▸ s = eq ∙ ap (λ (i : ℕ). bin 1 i ▸ s) (one a h (eqb-false a 0 t)) in
        ⊎_elim
        (λ w. by_2 y.rest (first ∙ ap (λ (k : Bits). bin 1 1 ▸ k) (g.1 ∙ ap (λ (i : ℕ). bin 1 i ▸ y.rest) (eqb-true y.got 0 w.0))) (signed-sound Type2 y.rest w.1))
        (λ w. by_3 y.rest (first ∙ ap (λ (k : Bits). bin 1 1 ▸ k) (g.1 ∙ ap (λ (i : ℕ). bin 1 i ▸ y.rest) (one y.got g.0 (eqb-false y.got 0 w.0)))) (fixed-sound y.rest w.1))
        (cond-ok (eqb y.got 0) (signed Type2 y.rest) (fixed y.rest) y.then)

-- ---- an event

-- the code of any row but the escape's, or the escape's, and what comes after it
row-takes : (i : ℕ) (x : Bits) (e : Event) → i < 103 → Takes (λ b. cond (eqb i 102) (escaped b) (sign Plain i b)) x e → Takes plain_event (vlc_bits i ▸ x) e
unfolding plain_event
row-takes i x e h t = then_takes (code vlc_codes vlc_lens 13 103 InvalidTcoef) _ (code-takes vlc_codes vlc_lens 13 103 InvalidTcoef vlc_prefix_free every i h) t

pub plain-takes : (e : Event) → GoodEvent false e → Takes plain_event (event_bits e) e
unfolding event_bits GoodEvent
plain-takes (plain i s) g = row-takes i (bin 1 s) (plain i s) (omega arith) (else_takes escaped (sign Plain i) (eqb i 102) (ne_eqb i 102 (λ z. omega arith)) (sign-takes Plain i s g.1))
plain-takes (type1 i s) g = row-takes 102 _ (type1 i s) (lit< tt) (type_1_takes i s g.0 g.1)
plain-takes (type2 i s) g = row-takes 102 _ (type2 i s) (lit< tt) (longer-takes 0 _ (type2 i s) (lit< tt) (signed-takes Type2 i s g.0 g.1))
plain-takes (type3 l n v) g = row-takes 102 _ (type3 l n v) (lit< tt) (longer-takes 1 _ (type3 l n v) (lit< tt) (fixed-takes l n v g.0 g.1 g.2 g.3 g.4))
plain-takes (rvlc i s) g = absurd g
plain-takes (rvlc_escape l n m s) g = absurd g

pub plain-sound : (b : Bits) {e : Event} {r : Bits} → plain_event b ≡ ok e r → GoodEvent false e × (b ≡ event_bits e ▸ r)
unfolding plain_event sign GoodEvent event_bits
plain-sound b {e} {r} q =
    let x = bind_ok (code vlc_codes vlc_lens 13 103 InvalidTcoef b) _ q in
    let f = code-sound vlc_codes vlc_lens 13 103 InvalidTcoef b x.first in
    ⊎_elim
    (λ w. let s = escaped-sound x.rest w.1 in (s.0, f.1 ∙ ap (λ (i : ℕ). vlc_bits i ▸ x.rest) (eqb-true x.got 102 w.0) ∙ s.1))
    (λ w. short x.got x.rest f.0 f.1 w.0 w.1)
    (cond-ok (eqb x.got 102) (escaped x.rest) (bind (field 1 x.rest) (λ s r. ok (plain x.got s) r)) x.then)
  where
    short : (i : ℕ) (s : Bits) → i < 103 → b ≡ vlc_bits i ▸ s → eqb i 102 ≡ false
        → bind (field 1 s) (λ s r. ok (plain i s) r) ≡ ok e r → GoodEvent false e × (b ≡ event_bits e ▸ r)
    short i s h eq t q =
        let y = bind_ok (field 1 s) (λ s r. ok (plain i s) r) q in
        let g = field-sound 1 s y.first in
        let z : ok (plain i y.got) y.rest ≡ ok e r = y.then in
        let e₁ : e ≡ plain i y.got = cc in
        let e₂ : y.rest ≡ r = cc in
        let n = eqb-false i 102 t in
        let lt : i < 102 = omega arith in
        subst (λ (x : Event). GoodEvent false x × (b ≡ event_bits x ▸ r)) (sym e₁)
        ((lt, g.0), eq ∙ ap (λ (k : Bits). vlc_bits i ▸ k) (g.1 ∙ ap (λ (k : Bits). bin 1 y.got ▸ k) e₂) ∙ sym (append_assoc (vlc_bits i) (bin 1 y.got) r))
