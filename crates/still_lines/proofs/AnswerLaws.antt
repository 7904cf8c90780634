-- The answer to a line, form by form. Assumes nothing.
use mathlib.Core.Bool.{Bool, cond, false, true}
use mathlib.Core.List.{List, []}
use mathlib.Core.Path.{◌≡◌, ap, refl, subst, subst⁻¹, sym, ◌∙◌}
use Prim.Native.Nat.{ℕ, ◌+◌, ◌≤◌}
use native.Mathlib.Omega.{arith}
use lib.IntN.{ℤ}
use lib.ListN.{length, take}
use lib.Seq.{length-paste, paste, take_all, take-paste}
use borrow.Author.Tests.{le-leb}
use Rattle.forms.proofs.DataLaws.{Fits, form_fits}
use Rattle.forms.specs.Forms.{Form, form_of, malformed, mb, picture}
use Rattle.forms.specs.Reading.{data_after, data_of, line_of, parsed, room_for_data}
use Rattle.forms.specs.declared.kind.Kind.{Kind}
use Rattle.forms.specs.declared.line.Line.TheVariants.{Macroblock, Malformed, Picture, TooShort}
use Rattle.picture.specs.Call.{Input, answer_out, samples_out, store_out}
use Rattle.picture_state.specs.declared.picture.Picture.{Picture as APicture}
use Rattle.still_lines.specs.Still.{input_of, samples_after, samples_by, still_after, still_by, still_decoded, store_after, store_by, text_after, text_by, text_decoded}
use Rattle.still_lines.specs.declared.still.Still.{Still}

-- ---- the form behind a line

pub no_form : (f : Form) → Malformed ≡ line_of f → f ≡ malformed
no_form (picture w h d m) e = absurd (let z : ◌≡◌ {A = ℕ} 0 1 = cc in omega arith)
no_form (mb q a k y c b) e = absurd (let z : ◌≡◌ {A = ℕ} 0 1 = cc in omega arith)
no_form malformed e = refl

pub picture_form_lem : (f : Form) (w h d m : ℕ) → Picture w h d m ≡ line_of f → f ≡ picture w h d m
picture_form_lem (picture w h d m) w' h' d' m' e =
    let e₁ : w ≡ w' = cc in
    let e₂ : h ≡ h' = cc in
    let e₃ : d ≡ d' = cc in
    let e₄ : m ≡ m' = cc in
    λ i. picture (e₁ i) (e₂ i) (e₃ i) (e₄ i)
picture_form_lem (mb q a k y c b) w' h' d' m' e = absurd (let z : ◌≡◌ {A = ℕ} 0 1 = cc in omega arith)
picture_form_lem malformed w' h' d' m' e = absurd (let z : ◌≡◌ {A = ℕ} 0 1 = cc in omega arith)

pub record MbForm (f : Form) (q a : ℕ) (k : Kind) (y c n : ℕ) : Type 0 where
  pub bytes : List ℕ
  pub is : f ≡ mb q a k y c bytes
  pub long : length bytes ≡ n

pub mb_form_lem : (f : Form) (q a : ℕ) (k : Kind) (y c n : ℕ) → Macroblock q a k y c n ≡ line_of f → MbForm f q a k y c n
mb_form_lem (picture w h d m) q' a' k' y' c' n e = absurd (let z : ◌≡◌ {A = ℕ} 0 1 = cc in omega arith)
mb_form_lem (mb q a k y c b) q' a' k' y' c' n e =
    let e₁ : q ≡ q' = cc in
    let e₂ : a ≡ a' = cc in
    let e₃ : k ≡ k' = cc in
    let e₄ : y ≡ y' = cc in
    let e₅ : c ≡ c' = cc in
    let e₆ : length b ≡ n = cc in
    record { bytes = b; is = λ i. mb (e₁ i) (e₂ i) (e₃ i) (e₄ i) (e₅ i) b; long = e₆ }
mb_form_lem malformed q' a' k' y' c' n e = absurd (let z : ◌≡◌ {A = ℕ} 0 1 = cc in omega arith)

-- ---- where 16,384 bytes are lent for data, the line is what its form says

module _ (l old : List ℕ) (h : room_for_data ≤ length old) where
  pub parsed-is : parsed l old ≡ line_of (form_of l)
  parsed-is = ap (λ (t : Bool). cond t (line_of (form_of l)) TooShort) (le-leb room_for_data (length old) h)

  data_after_lem : data_after l old ≡ data_of (form_of l) old
  data_after_lem = ap (λ (t : Bool). cond t (data_of (form_of l) old) old) (le-leb room_for_data (length old) h)

  pub never_short : TooShort ≡ parsed l old → ⊥
  never_short e = go (form_of l) (e ∙ parsed-is)
    where
      go : (f : Form) → TooShort ≡ line_of f → ⊥
      go (picture w h d m) e = let z : ◌≡◌ {A = ℕ} 0 1 = cc in omega arith
      go (mb q a k y c b) e = let z : ◌≡◌ {A = ℕ} 0 1 = cc in omega arith
      go malformed e = let z : ◌≡◌ {A = ℕ} 0 1 = cc in omega arith

  -- the bytes of a macroblock stand first in the lent data
  module _ {q a : ℕ} {k : Kind} {y c n : ℕ} (m : MbForm (form_of l) q a k y c n) where
    fits : n ≤ length old
    fits =
        let f : length m.bytes ≤ room_for_data = subst Fits m.is (form_fits l) in
        let g = m.long in
        omega arith

    pub data_long : (now : List ℕ) → now ≡ data_after l old → n ≤ length now
    data_long now e =
        let f = fits in
        let g = m.long in
        let p = length-paste old 0 m.bytes (length m.bytes) (omega arith) (omega arith) in
        subst⁻¹ (λ (i : ℕ). n ≤ i) (ap length (e ∙ data_after_lem ∙ ap (λ (f : Form). data_of f old) m.is) ∙ p) f

    pub data_is : (now : List ℕ) → now ≡ data_after l old → take n now ≡ m.bytes
    data_is now e =
        let f = fits in
        ap (take n) (e ∙ data_after_lem ∙ ap (λ (f : Form). data_of f old) m.is)
        ∙ ap (λ (i : ℕ). take n (paste old 0 m.bytes i)) m.long
        ∙ ap (λ (i : ℕ). take i (paste old 0 m.bytes n)) (let z : n ≡ 0 + n = omega arith in z)
        ∙ take-paste old 0 m.bytes n (omega arith) (let g = m.long in omega arith)
        ∙ take_all n m.bytes (let g = m.long in omega arith)

-- ---- what a line leaves, by its form

pub record Left (s : Still) (samples store : List ℤ) (l : List ℕ) (f : Form) : Type 0 where
  pub still_is : still_by s samples store f ≡ still_after s samples store l
  pub text_is : text_by s samples store f ≡ text_after s samples store l
  pub samples-are : samples_by s samples store f ≡ samples_after s samples store l
  pub store_is : store_by s samples store f ≡ store_after s samples store l

pub left_by : (s : Still) (samples store : List ℤ) (l : List ℕ) (f : Form) → form_of l ≡ f → Left s samples store l f
unfolding still_after text_after samples_after store_after
left_by s samples store l f e =
    record {
      still_is = sym (ap (still_by s samples store) e);
      text_is = sym (ap (text_by s samples store) e);
      samples-are = sym (ap (samples_by s samples store) e);
      store_is = sym (ap (store_by s samples store) e);
    }

-- a macroblock without and with an open picture
module _ (s : Still) (samples store : List ℤ) (l : List ℕ) (q a : ℕ) (k : Kind) (y c : ℕ) (bytes : List ℕ) (left : Left s samples store l (mb q a k y c bytes)) where
  abbrev x : Input
  x = input_of q a k y c bytes samples

  abbrev p : APicture
  p = s.picture

  abbrev Meets : Still → List ℕ → List ℤ → List ℤ → Type 0
  Meets still text out st =
      ((still ≡ still_after s samples store l) × (text ≡ text_after s samples store l)) × ((out ≡ samples_after s samples store l) × (st ≡ store_after s samples store l))

  by : (t : Bool) → s.has_picture ≡ t
      → Meets (cond t (still_decoded s (answer_out p x store)) s) (cond t (text_decoded p (samples_out p x store) (answer_out p x store)) [])
      (cond t (samples_out p x store) samples) (cond t (store_out p x store) store)
  by t h = (
    (
      sym (ap (λ (b : Bool). cond b (still_decoded s (answer_out p x store)) s) h) ∙ left.still_is,
      sym (ap (λ (b : Bool). cond b (text_decoded p (samples_out p x store) (answer_out p x store)) []) h) ∙ left.text_is,
    ),
    (
      sym (ap (λ (b : Bool). cond b (samples_out p x store) samples) h) ∙ left.samples-are,
      sym (ap (λ (b : Bool). cond b (store_out p x store) store) h) ∙ left.store_is,
    ),
  )

  pub without : s.has_picture ≡ false → Meets s [] samples store
  without h = by false h

  pub within : s.has_picture ≡ true → Meets (still_decoded s (answer_out p x store)) (text_decoded p (samples_out p x store) (answer_out p x store)) (samples_out p x store)
      (store_out p x store)
  within h = by true h
