-- What each step of the reader accepts, and what it gives where the bits begin with what it seeks. Assumes nothing.
use mathlib.Core.Bool.{Bool, true, false, cond}
use mathlib.Core.List.{List, ◌++◌}
use mathlib.Core.Logic.{⊎_elim, ◌⊎◌, inl, inr}
use mathlib.Core.Path.{◌≡◌, refl, sym, ap, ap₂, subst, ◌∙◌}
use Prim.Native.Nat.{ℕ, ◌+◌, ◌^◌, ◌≤◌, ◌<◌}
use native.Mathlib.Omega.{arith}
use lib.Dec.{T, eqb, leb, lit<, ltb}
use lib.ListN.{length, length-append, get_or, take, drop, take-append-drop}
use lib.Seq.{length-take-le, take_at, drop_at}
use borrow.Author.Tests.{ne_eqb, eqb-true, lt-ltb, ltb-true, le-leb, leb-true}
use Rattle.bits.proofs.BitLaws.{val-lt, val-bin, bin-val, length-bin}
use Rattle.bits.specs.Bits.{Bits, val, bin}
use Rattle.codes.proofs.TableLaws.{row-sound, row-complete, sound-row}
use Rattle.codes.specs.Table.{row_at, code_bits, prefix_free}
use Rattle.fields.specs.Reader.{Res, ok, no, bind, field, code, marker, no_code}
use Rattle.fields.specs.declared.error.TextureParseError.{TextureParseError}
use Rattle.fields.specs.declared.error.TextureParseError.TheVariants.{Truncated}

-- ---- steps

pub record Bound (A B : Type 0) (m : Res A) (k : A → Bits → Res B) (c : B) (r : Bits) : Type 0 where
  pub got : A
  pub rest : Bits
  pub first : m ≡ ok got rest
  pub then : k got rest ≡ ok c r

pub bind_ok : {A B : Type 0} (m : Res A) (k : A → Bits → Res B) {c : B} {r : Bits} → bind m k ≡ ok c r → Bound A B m k c r
bind_ok (ok a s) k e = record { got = a; rest = s; first = refl; then = e }
bind_ok (no n) k {c} {r} e = absurd (let z : ◌≡◌ {A = ℕ} 0 1 = cc in omega arith)

pub bind_by : {A B : Type 0} {m : Res A} (k : A → Bits → Res B) {a : A} {s : Bits} → m ≡ ok a s → bind m k ≡ k a s
bind_by {A} {B} k e = ap (λ (x : Res A). bind x k) e

pub cond-ok : {A : Type 0} (t : Bool) (x y : Res A) {c : A} {r : Bits} → cond t x y ≡ ok c r
    → ((t ≡ true) × (x ≡ ok c r)) ⊎ ((t ≡ false) × (y ≡ ok c r))
cond-ok true x y e = inl (refl, e)
cond-ok false x y e = inr (refl, e)

pub no_ok : {A : Type 0} {n : TextureParseError} {c : A} {r : Bits} → no n ≡ ok c r → ⊥
no_ok {A} {n} {c} {r} e = let z : ◌≡◌ {A = ℕ} 0 1 = cc in omega arith

-- ---- a field of n bits

pub field-sound : (n : ℕ) (b : Bits) {v : ℕ} {r : Bits} → field n b ≡ ok v r → (v < 2 ^ n) × (b ≡ bin n v ++ r)
unfolding field
field-sound n b {v} {r} e = ⊎_elim good (λ w. absurd (no_ok w.1)) (cond-ok (leb n (length b)) _ _ e)
  where
    good : (leb n (length b) ≡ true) × (ok (val (take n b)) (drop n b) ≡ ok v r) → (v < 2 ^ n) × (b ≡ bin n v ++ r)
    good w =
        let len : length (take n b) ≡ n = length-take-le n b (leb-true n (length b) w.0) in
        let q : ok (val (take n b)) (drop n b) ≡ ok v r = w.1 in
        let e₁ : val (take n b) ≡ v = cc in
        let e₂ : drop n b ≡ r = cc in
        let e₃ : bin n v ≡ take n b = ap₂ bin (sym len) (sym e₁) ∙ bin-val (take n b) in (
          rw (← e₁) (subst (λ (k : ℕ). val (take n b) < 2 ^ k) len (val-lt (take n b))),
          sym (take-append-drop n b) ∙ ap₂ (λ (x y : Bits). x ++ y) (sym e₃) e₂,
        )

pub field-complete : (n v : ℕ) (r : Bits) → v < 2 ^ n → field n (bin n v ++ r) ≡ ok v r
unfolding field
field-complete n v r h =
    let len : length (bin n v ++ r) ≡ n + length r = length-append (bin n v) r ∙ ap (λ (k : ℕ). k + length r) (length-bin n v) in
    let t : leb n (length (bin n v ++ r)) ≡ true = le-leb n (length (bin n v ++ r)) (omega arith) in
    ap (λ (x : Bool). cond x (ok (val (take n (bin n v ++ r))) (drop n (bin n v ++ r))) (no Truncated)) t
    ∙ ap₂ {A = Bits} {B = Bits} {C = Res ℕ} (λ x y. ok (val x) y) (take_at (bin n v) r n (length-bin n v)) (drop_at (bin n v) r n (length-bin n v))
    ∙ ap {B = Res ℕ} (λ (x : ℕ). ok x r) (val-bin n v h)

-- ---- a marker

pub marker-sound : (err : TextureParseError) (b : Bits) {m : ℕ} {r : Bits} → marker err b ≡ ok m r → b ≡ bin 1 1 ++ r
unfolding marker
marker-sound err b {m} {r} q =
    let x = bind_ok (field 1 b) _ q in
    ⊎_elim (λ w. good x w.0 w.1) (λ w. absurd (no_ok w.1)) (cond-ok (eqb x.got 1) (ok x.got x.rest) (no err) x.then)
  where
    good : (x : Bound ℕ ℕ (field 1 b) (λ m r. cond (eqb m 1) (ok m r) (no err)) m r) → eqb x.got 1 ≡ true → ok x.got x.rest ≡ ok m r → b ≡ bin 1 1 ++ r
    good x t z =
        let f = (field-sound 1 b x.first).1 in
        let e₁ : x.got ≡ 1 = eqb-true x.got 1 t in
        let e₂ : x.rest ≡ r = cc in
        f ∙ ap₂ (λ (i : ℕ) (k : Bits). bin 1 i ++ k) e₁ e₂

pub marker-complete : (err : TextureParseError) (r : Bits) → marker err (bin 1 1 ++ r) ≡ ok 1 r
unfolding marker
marker-complete err r = bind_by _ (field-complete 1 1 r (lit< tt))

-- ---- a code of a table

-- past the code that begins the bits
past : (cs ls : List ℕ) (i : ℕ) (r : Bits) → drop (get_or ls i 0) (code_bits cs ls i ++ r) ≡ r
past cs ls i r = drop_at (code_bits cs ls i) r (get_or ls i 0) (length-bin (get_or ls i 0) (get_or cs i 0))

module _ (cs ls : List ℕ) (width rows : ℕ) (err : ℕ → TextureParseError) where
  pub code-sound : (b : Bits) {i : ℕ} {r : Bits} → code cs ls width rows err b ≡ ok i r → (i < rows) × (b ≡ code_bits cs ls i ++ r)
  unfolding code
  code-sound b {i} {r} e =
      let k : ℕ = row_at cs ls width rows b in
      ⊎_elim (λ w. absurd (no_ok w.1))
      (λ w. ⊎_elim good (λ u. absurd (no_ok u.1)) (cond-ok (ltb k rows) (ok k (drop (get_or ls k 0) b)) (no (no_code cs ls width rows err b)) w.1))
      (cond-ok (eqb (length b) 0) (no Truncated) (cond (ltb k rows) (ok k (drop (get_or ls k 0) b)) (no (no_code cs ls width rows err b))) e)
    where
      good : (ltb (row_at cs ls width rows b) rows ≡ true) × (ok (row_at cs ls width rows b) (drop (get_or ls (row_at cs ls width rows b) 0) b) ≡ ok i r)
          → (i < rows) × (b ≡ code_bits cs ls i ++ r)
      good w =
          let k : ℕ = row_at cs ls width rows b in
          let q : ok k (drop (get_or ls k 0) b) ≡ ok i r = w.1 in
          let e₁ : k ≡ i = cc in
          let e₂ : drop (get_or ls k 0) b ≡ r = cc in
          let l : k < rows = ltb-true k rows w.0 in
          let s = row-sound width cs ls rows b l in
          let e₃ : s.0 ≡ r = sym (past cs ls k s.0) ∙ ap (drop (get_or ls k 0)) (sym s.1) ∙ e₂ in
          (subst (λ (x : ℕ). x < rows) e₁ l, s.1 ∙ ap₂ (λ (x : ℕ) (y : Bits). code_bits cs ls x ++ y) e₁ e₃)

  pub code-complete : T (prefix_free width cs ls) → rows ≤ length cs → (i : ℕ) (r : Bits) → i < rows → code cs ls width rows err (code_bits cs ls i ++ r) ≡ ok i r
  unfolding code
  code-complete f within i r h =
      let b : Bits = code_bits cs ls i ++ r in
      let row = sound-row width cs ls f i (omega arith) in
      let k : row_at cs ls width rows b ≡ i = row-complete width cs ls f rows within i h r in
      let len : length b ≡ get_or ls i 0 + length r =
      length-append (code_bits cs ls i) r ∙ ap (λ (x : ℕ). x + length r) (length-bin (get_or ls i 0) (get_or cs i 0)) in
      let some : eqb (length b) 0 ≡ false = ne_eqb (length b) 0 (λ z. omega (arith, row.pos)) in
      ap (λ (x : Bool). cond x (no Truncated) (cond (ltb (row_at cs ls width rows b) rows) (ok (row_at cs ls width rows b) (drop (get_or ls (row_at cs ls width rows b) 0) b)) (no (no_code cs ls width rows err b)))) some
      ∙ ap (λ (x : ℕ). cond (ltb x rows) (ok x (drop (get_or ls x 0) b)) (no (no_code cs ls width rows err b))) k
      ∙ ap (λ (x : Bool). cond x (ok i (drop (get_or ls i 0) b)) (no (no_code cs ls width rows err b))) (lt-ltb i rows h)
      ∙ ap (λ (x : Bits). ok i x) (past cs ls i r)
