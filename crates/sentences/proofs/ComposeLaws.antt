-- A reader that reads a grammar accepts exactly where the bits begin with a sentence, never with two, and takes its bits; kept by putting grammars together. Assumes nothing.
use mathlib.Core.Bool.{Bool, true, false}
use mathlib.Core.List.{List, [], ◌∷◌, append_assoc}
use mathlib.Core.Logic.{◌↔◌}
use Rattle.std.specs.Prelude.{Option, None, Some}
use mathlib.Core.Path.{◌≡◌, refl, sym, ap, subst₂, ◌∙◌}
use Prim.Native.Nat.{◌-◌}
use native.Mathlib.Omega.{arith}
use lib.ListN.{length, length-append}
use Rattle.bits.specs.Bits.{Bits}
use Rattle.events.specs.Event.{◌▸◌}
use Rattle.fields.proofs.ReadLaws.{bind_ok, bind_by}
use Rattle.fields.specs.Reader.{Res, ok}
use Rattle.sentences.specs.Compose.{Begins, pair_bits, GoodPair, then_bits, GoodThen, opt_bits, GoodOpt, each_bits, GoodEach}
use Rattle.sentences.specs.ComposeReader.{read_pair, read_then, read_opt, read_each, Reads}

module _ {A : Type 0} (read : Bits → Res A) (bits : A → Bits) (Good : A → Type 0) (h : Reads read bits Good) where
  pub accepts : (b : Bits) → ((a : A) × ((r : Bits) × (read b ≡ ok a r))) ↔ ((a : A) × Begins bits Good b a)
  accepts b = (
    λ x. (x.0, let s = h.sound b x.0 x.1.0 x.1.1 in (s.0, (x.1.0, s.1))),
    λ x. (x.0, (x.1.1.0, ap read x.1.1.1 ∙ h.complete x.0 x.1.1.0 x.1.0)),
  )

  pub unique : (a c : A) (r s : Bits) → Good a → Good c → bits a ▸ r ≡ bits c ▸ s → (a ≡ c) × (r ≡ s)
  unique a c r s g g' e =
      let e₁ : read (bits a ▸ r) ≡ ok a r = h.complete a r g in
      let e₂ : read (bits a ▸ r) ≡ ok c s = ap read e ∙ h.complete c s g' in
      (cc, cc)

  pub taken : (b : Bits) (a : A) (r : Bits) → read b ≡ ok a r → length b - length r ≡ length (bits a)
  taken b a r q =
      let s = h.sound b a r q in
      let len = ap length s.1 ∙ length-append (bits a) r in
      omega arith

-- ---- put together

module _ {A B : Type 0} (p : Bits → Res A) (f : A → Bits) (P : A → Type 0) (q : A → Bits → Res B) (g : A → B → Bits) (Q : A → B → Type 0)
    (hp : Reads p f P) (hq : (a : A) → Reads (q a) (g a) (Q a)) where
  pub then_reads : Reads (read_then p q) (then_bits f g) (GoodThen P Q)
  then_reads = record {
    sound = λ b x r e.
        let u = bind_ok (p b) _ e in
        let v = bind_ok (q u.got u.rest) _ u.then in
        let su = hp.sound b u.got u.rest u.first in
        let sv = (hq u.got).sound u.rest v.got v.rest v.first in
        end b u.got u.rest v.got v.rest x r su sv v.then;
    complete = λ x r h.
        ap (read_then p q) (append_assoc (f x.0) (g x.0 x.1) r)
        ∙ bind_by _ (hp.complete x.0 (g x.0 x.1 ▸ r) h.0)
        ∙ bind_by _ ((hq x.0).complete x.1 r h.1);
  }
    where
      end : (b : Bits) (a : A) (s : Bits) (c : B) (t : Bits) (x : A × B) (r : Bits) → P a × (b ≡ f a ▸ s) → Q a c × (s ≡ g a c ▸ t)
          → ◌≡◌ {A = Res (A × B)} (ok (a, c) t) (ok x r) → GoodThen P Q x × (b ≡ then_bits f g x ▸ r)
      end b a s c t x r su sv e =
          let e₁ : ◌≡◌ {A = A × B} (a, c) x = cc in
          let e₂ : t ≡ r = cc in
          subst₂ (λ (y : A × B) (z : Bits). GoodThen P Q y × (b ≡ then_bits f g y ▸ z)) e₁ e₂
          ((su.0, sv.0), su.1 ∙ ap (λ (k : Bits). f a ▸ k) sv.1 ∙ sym (append_assoc (f a) (g a c) t))

pub pair_reads : {A B : Type 0} (p : Bits → Res A) (f : A → Bits) (P : A → Type 0) (q : Bits → Res B) (g : B → Bits) (Q : B → Type 0)
    → Reads p f P → Reads q g Q → Reads (read_pair p q) (pair_bits f g) (GoodPair P Q)
pair_reads p f P q g Q hp hq = then_reads p f P (λ _. q) (λ _. g) (λ _. Q) hp (λ _. hq)

module _ {A : Type 0} (p : Bits → Res A) (f : A → Bits) (P : A → Type 0) (hp : Reads p f P) where
  pub opt_reads : (t : Bool) → Reads (read_opt t p) (opt_bits f) (GoodOpt t P)
  opt_reads true = record {
    sound = λ b x r e. let u = bind_ok (p b) _ e in end b u.got u.rest x r (hp.sound b u.got u.rest u.first) u.then;
    complete = λ x r h. full x r h;
  }
    where
      end : (b : Bits) (a : A) (s : Bits) (x : Option A) (r : Bits) → P a × (b ≡ f a ▸ s) → ok (Some a) s ≡ ok x r
          → GoodOpt true P x × (b ≡ opt_bits f x ▸ r)
      end b a s x r h e =
          let e₁ : Some a ≡ x = cc in
          let e₂ : s ≡ r = cc in
          subst₂ (λ (y : Option A) (z : Bits). GoodOpt true P y × (b ≡ opt_bits f y ▸ z)) e₁ e₂ h

      full : (x : Option A) (r : Bits) → GoodOpt true P x → read_opt true p (opt_bits f x ▸ r) ≡ ok x r
      full None r h = absurd h
      full (Some a) r h = bind_by _ (hp.complete a r h)
  opt_reads false = record {
    sound = λ b x r e. end b x r e;
    complete = λ x r h. full x r h;
  }
    where
      end : (b : Bits) (x : Option A) (r : Bits) → ok None b ≡ ok x r → GoodOpt false P x × (b ≡ opt_bits f x ▸ r)
      end b x r e =
          let e₁ : None ≡ x = cc in
          let e₂ : b ≡ r = cc in
          subst₂ (λ (y : Option A) (z : Bits). GoodOpt false P y × (b ≡ opt_bits f y ▸ z)) e₁ e₂ (tt, refl)

      full : (x : Option A) (r : Bits) → GoodOpt false P x → read_opt false p (opt_bits f x ▸ r) ≡ ok x r
      full None r h = refl
      full (Some a) r h = absurd h

module _ {S A : Type 0} (p : S → Bits → Res A) (f : S → A → Bits) (P : S → A → Type 0) (hp : (s : S) → Reads (p s) (f s) (P s)) where
  each_sound : (ss : List S) (b : Bits) (xs : List A) (r : Bits) → read_each p ss b ≡ ok xs r → GoodEach P ss xs × (b ≡ each_bits f ss xs ▸ r)
  each_sound [] b xs r e =
      let e₁ : [] ≡ xs = cc in
      let e₂ : b ≡ r = cc in
      subst₂ (λ (y : List A) (z : Bits). GoodEach P [] y × (b ≡ each_bits f [] y ▸ z)) e₁ e₂ (tt, refl)
  each_sound (s ∷ ss) b xs r e =
      let u = bind_ok (p s b) _ e in
      let v = bind_ok (read_each p ss u.rest) _ u.then in
      end u.got u.rest v.got v.rest ((hp s).sound b u.got u.rest u.first) (each_sound ss u.rest v.got v.rest v.first) v.then
    where
      end : (a : A) (t : Bits) (ys : List A) (w : Bits) → P s a × (b ≡ f s a ▸ t) → GoodEach P ss ys × (t ≡ each_bits f ss ys ▸ w) → ok (a ∷ ys) w ≡ ok xs r
          → GoodEach P (s ∷ ss) xs × (b ≡ each_bits f (s ∷ ss) xs ▸ r)
      end a t ys w su sv e =
          let e₁ : a ∷ ys ≡ xs = cc in
          let e₂ : w ≡ r = cc in
          subst₂ (λ (y : List A) (z : Bits). GoodEach P (s ∷ ss) y × (b ≡ each_bits f (s ∷ ss) y ▸ z)) e₁ e₂
          ((su.0, sv.0), su.1 ∙ ap (λ (k : Bits). f s a ▸ k) sv.1 ∙ sym (append_assoc (f s a) (each_bits f ss ys) w))

  each_complete : (ss : List S) (xs : List A) (r : Bits) → GoodEach P ss xs → read_each p ss (each_bits f ss xs ▸ r) ≡ ok xs r
  each_complete [] [] r h = refl
  each_complete [] (x ∷ xs) r h = absurd h
  each_complete (s ∷ ss) [] r h = absurd h
  each_complete (s ∷ ss) (x ∷ xs) r h =
      ap (read_each p (s ∷ ss)) (append_assoc (f s x) (each_bits f ss xs) r)
      ∙ bind_by _ ((hp s).complete x (each_bits f ss xs ▸ r) h.0)
      ∙ bind_by _ (each_complete ss xs r h.1)

  pub each_reads : (ss : List S) → Reads (read_each p ss) (each_bits f ss) (GoodEach P ss)
  each_reads ss = record { sound = each_sound ss; complete = each_complete ss }
