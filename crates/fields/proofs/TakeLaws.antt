-- A reader takes a string of bits: it reads them, whatever follows, and where they break off it is stopped. Kept by reading one after the other; of a code, where 17 is told. Assumes nothing.
use mathlib.Core.Bool.{Bool, cond, false, true}
use mathlib.Core.List.{List, [], ◌++◌, ◌∷◌, append_assoc}
use mathlib.Core.Logic.{⊎_elim, ◌⊎◌, ◌↔◌, inl, inr}
use mathlib.Core.Path.{◌≡◌, ◌∙◌, ap, ap₂, refl, subst⁻¹, sym}
use Prim.Native.Nat.{◌<◌, ◌^◌, ◌≤◌, ℕ}
use native.Mathlib.Omega.{arith}
use lib.Dec.{T, eqb, lit<, ltb}
use lib.ListN.{drop, get_or, length, length-append, take}
use borrow.Author.Tests.{eqb-false, lt-leb}
use Rattle.bits.proofs.BitLaws.{length-bin}
use Rattle.bits.specs.Bits.{Bits, bin, val}
use Rattle.codes.proofs.CutLaws.{cut-exactly, cut-no-code}
use Rattle.codes.proofs.TableLaws.{row-sound}
use Rattle.codes.specs.Table.{code_bits, cut_at, prefix_free, row_at}
use Rattle.fields.proofs.ReadLaws.{bind_by, code-complete, field-complete, marker-complete, no_ok}
use Rattle.fields.proofs.StepLaws.{code_empty, code_lost}
use Rattle.fields.specs.Reader.{Res, bind, code, field, marker, no, ok}
use Rattle.fields.specs.Refusal.{number_of}
use Rattle.fields.specs.Stopped.{Stops}
use Rattle.fields.specs.declared.error.TextureParseError.{TextureParseError}
use Rattle.fields.specs.declared.error.TextureParseError.TheVariants.{EndedInsideCode, Truncated}
use Rattle.numbers.proofs.Fill.{lt-or-le}

pub record Takes {A : Type 0} (p : Bits → Res A) (x : Bits) (a : A) : Type 0 where
  pub reads : (s : Bits) → p (x ++ s) ≡ ok a s
  pub stops : (b r : Bits) → 0 < length r → x ≡ b ++ r → Stops (p b)

-- ---- where a string of two parts breaks off: inside the first, or after it

pub broken : (b r x y : Bits) → x ++ y ≡ b ++ r → ((s : Bits) × ((0 < length s) × (x ≡ b ++ s))) ⊎ ((s : Bits) × ((b ≡ x ++ s) × (y ≡ s ++ r)))
broken [] r [] y e = inr ([], (refl, e))
broken [] r (k ∷ x) y e = inl (k ∷ x, (omega arith, refl))
broken (j ∷ b) r [] y e = inr (j ∷ b, (refl, e))
broken (j ∷ b) r (k ∷ x) y e =
    let h : k ≡ j = cc in
    let t : x ++ y ≡ b ++ r = cc in
    ⊎_elim (λ w. inl (w.0, (w.1.0, ap₂ (λ (i : Bool) (z : Bits). i ∷ z) h w.1.1)))
    (λ w. inr (w.0, (ap₂ (λ (i : Bool) (z : Bits). i ∷ z) (sym h) w.1.0, w.1.1)))
    (broken b r x y t)

-- ---- one after the other

pub stops_first : {A B : Type 0} (m : Res A) (k : A → Bits → Res B) → Stops m → Stops (bind m k)
stops_first (ok a r) k h = absurd h
stops_first (no e) k h = h

module _ {A B : Type 0} (p : Bits → Res A) (k : A → Bits → Res B) {x : Bits} {a : A} (t : Takes p x a) where
  pub then_stops : (y b r : Bits) → 0 < length r → x ++ y ≡ b ++ r → ((s : Bits) → y ≡ s ++ r → Stops (k a s)) → Stops (bind (p b) k)
  then_stops y b r l e more =
      ⊎_elim (λ w. stops_first (p b) k (t.stops b w.0 w.1.0 w.1.1))
      (λ w. subst⁻¹ Stops (ap (λ (z : Bits). bind (p z) k) w.1.0 ∙ bind_by k (t.reads w.0)) (more w.0 w.1.1))
      (broken b r x y e)

  pub then_takes : {y : Bits} {c : B} → Takes (k a) y c → Takes (λ b. bind (p b) k) (x ++ y) c
  then_takes {y} {c} u = record {
    reads = λ s. ap (λ (z : Bits). bind (p z) k) (append_assoc x y s) ∙ bind_by k (t.reads (y ++ s)) ∙ u.reads s;
    stops = λ b r l e. then_stops y b r l e (λ s q. u.stops s r l q);
  }

  -- and nothing after it
  pub last-takes : {c : B} → ((s : Bits) → k a s ≡ ok c s) → Takes (λ b. bind (p b) k) x c
  last-takes h = record {
    reads = λ s. bind_by k (t.reads s) ∙ h s;
    stops = λ b r l e. stops_first (p b) k (t.stops b r l e);
  }

pub nothing_takes : {A : Type 0} (a : A) → Takes (λ b. ok a b) [] a
nothing_takes a = record {
  reads = λ s. refl;
  stops = λ b r l e. absurd (let n = ap length e ∙ length-append b r in omega arith);
}

-- as a test says
pub if_takes : {A : Type 0} (p q : Bits → Res A) (t : Bool) {x : Bits} {a : A} → t ≡ true → Takes p x a → Takes (λ b. cond t (p b) (q b)) x a
if_takes p q t {x} {a} e h = subst⁻¹ (λ (t : Bool). Takes (λ b. cond t (p b) (q b)) x a) e h

pub else_takes : {A : Type 0} (p q : Bits → Res A) (t : Bool) {x : Bits} {a : A} → t ≡ false → Takes q x a → Takes (λ b. cond t (p b) (q b)) x a
else_takes p q t {x} {a} e h = subst⁻¹ (λ (t : Bool). Takes (λ b. cond t (p b) (q b)) x a) e h

-- ---- steps

pub field_stops : (n : ℕ) (b : Bits) → length b < n → field n b ≡ no Truncated
unfolding field
field_stops n b l = ap (λ (t : Bool). cond t (ok (val (take n b)) (drop n b)) (no Truncated)) (lt-leb n (length b) l)

pub field-takes : (n v : ℕ) → v < 2 ^ n → Takes (field n) (bin n v) v
field-takes n v h = record {
  reads = λ s. field-complete n v s h;
  stops = λ b r l e. let m = ap length e ∙ length-append b r in subst⁻¹ Stops (field_stops n b (omega (arith, length-bin n v))) tt;
}

pub marker-takes : (err : TextureParseError) → Takes (marker err) (bin 1 1) 1
unfolding marker
marker-takes err = record {
  reads = λ s. marker-complete err s;
  stops = λ b r l e. stops_first (field 1 b) _ ((field-takes 1 1 (lit< tt)).stops b r l e);
}

-- ---- a code of a prefix-free table

module _ (cs ls : List ℕ) (width rows : ℕ) (err : ℕ → TextureParseError) (free : T (prefix_free width cs ls)) (within : rows ≤ length cs) where
  -- bits that end inside a code begin with no other
  ended : (b : Bits) → 0 < length b → cut_at cs ls rows b ≡ true → code cs ls width rows err b ≡ no EndedInsideCode
  ended b l t =
      let k = row_at cs ls width rows b in
      ⊎_elim (λ (f : k < rows). let s = row-sound width cs ls rows b f in absurd (cut-no-code width cs ls free rows within b t k f s.0 s.1))
      (λ (f : rows ≤ k). code_lost cs ls width rows err b l k refl f ∙ ap (λ (t : Bool). no (cond t EndedInsideCode (err (val (take width b))))) t)
      (lt-or-le k rows)

  -- 17 is told exactly where bits are left and end inside a code that is sought
  pub ended-exactly : ((w : ℕ) → number_of (err w) ≡ 17 → ⊥) → (b : Bits) → (code cs ls width rows err b ≡ no EndedInsideCode) ↔ ((0 < length b) × (cut_at cs ls rows b ≡ true))
  unfolding code
  ended-exactly other b = (go (eqb (length b) 0) refl (ltb (row_at cs ls width rows b) rows) (cut_at cs ls rows b) refl, λ x. ended b x.0 x.1)
    where
      w : ℕ
      w = val (take width b)

      go : (u : Bool) → eqb (length b) 0 ≡ u → (v t : Bool) → cut_at cs ls rows b ≡ t
          → cond u (no Truncated) (cond v (ok (row_at cs ls width rows b) (drop (get_or ls (row_at cs ls width rows b) 0) b)) (no (cond t EndedInsideCode (err w)))) ≡ no EndedInsideCode
          → (0 < length b) × (cut_at cs ls rows b ≡ true)
      go true e v t f q = absurd (let z : Truncated ≡ EndedInsideCode = cc in let n = ap number_of z in omega arith)
      go false e true t f q = absurd (no_ok (sym q))
      go false e false true f q = (let n = eqb-false (length b) 0 e in omega arith, f)
      go false e false false f q = absurd (other w (let z : err w ≡ EndedInsideCode = cc in ap number_of z))

  -- cut, it is no other, and what is left of it is told as such
  pub code-takes : (i : ℕ) → i < rows → Takes (code cs ls width rows err) (code_bits cs ls i) i
  code-takes i h = record { reads = λ s. code-complete cs ls width rows err free within i s h; stops = stop }
    where
      stop : (b r : Bits) → 0 < length r → code_bits cs ls i ≡ b ++ r → Stops (code cs ls width rows err b)
      stop b r l e =
          ⊎_elim (λ (f : length b < 1). subst⁻¹ Stops (code_empty cs ls width rows err b (omega arith)) tt)
          (λ (f : 1 ≤ length b). subst⁻¹ Stops (ended b f ((cut-exactly width cs ls free rows within b).1 (i, (h, (r, (l, e)))))) tt)
          (lt-or-le (length b) 1)
