-- The data of every line that is a form is at most 16,384 bytes: half of a word that is no longer than the line. Assumes nothing.
use mathlib.Core.Bool.{Bool, cond, false, true, ◌&&◌}
use mathlib.Core.List.{List, [], ◌∷◌}
use Rattle.std.specs.Prelude.{Option, None, Some}
use mathlib.Core.Path.{◌≡◌, refl, subst}
use Prim.Native.Nat.{ℕ, suc, ◌%◌, ◌-◌, ◌/◌, ◌≤◌}
use native.Mathlib.Omega.{arith}
use lib.Dec.{eqb, leb}
use lib.ListN.{drop, get_or, length, length-drop, length-take, take}
use borrow.Author.Tests.{leb-true}
use Rattle.numbers.specs.Every.{every}
use Rattle.forms.specs.Forms.{Form, form_by, form_of, given, kind_in, last, longest, malformed, mb, mb_form, mb_word, method_in, next, picture, picture_form, picture_word}
use Rattle.forms.specs.Reading.{room_for_data}
use Rattle.forms.specs.Words.{bytes_of, hex_in, is_hex, joined, number_in, same, words}
use Rattle.forms.specs.declared.kind.Kind.{Kind}

-- ---- no word is longer than the bytes that it stands in

abbrev Short : ℕ → List (List ℕ) → Type 0
Short n [] = Unit {0}
Short n (w ∷ ws) = (length w ≤ n) × Short n ws

short_in : (m n : ℕ) → m ≤ n → (ws : List (List ℕ)) → Short m ws → Short n ws
short_in m n h [] s = tt
short_in m n h (w ∷ ws) s = (let k = s.0 in omega arith, short_in m n h ws s.1)

joined_short : (n b : ℕ) (ws : List (List ℕ)) → Short n ws → Short (suc n) (joined b ws)
joined_short n b [] s = (omega arith, tt)
joined_short n b (w ∷ ws) s = (let k = s.0 in omega arith, short_in n (suc n) (omega arith) ws s.1)

words_short : (bs : List ℕ) → Short (length bs) (words bs)
unfolding words
words_short [] = (omega arith, tt)
words_short (b ∷ bs) = go (eqb b 32) (words_short bs)
  where
    go : (t : Bool) → Short (length bs) (words bs) → Short (suc (length bs)) (cond t ([] ∷ words bs) (joined b (words bs)))
    go true s = (omega arith, short_in (length bs) (suc (length bs)) (omega arith) (words bs) s)
    go false s = joined_short (length bs) b (words bs) s

-- ---- the data of a form fits, word after word

abbrev pub Fits : Form → Type 0
Fits (picture w h d m) = Unit {0}
Fits (mb q a k y c b) = length b ≤ room_for_data
Fits malformed = Unit {0}

next_fits : {A : Type 0} (p : List ℕ → Option A) (k : A → List (List ℕ) → Form)
    → ((w : List ℕ) (a : A) (ws : List (List ℕ)) → length w ≤ longest → p w ≡ Some a → Short longest ws → Fits (k a ws))
    → (ws : List (List ℕ)) → Short longest ws → Fits (next p k ws)
next_fits p k h [] s = tt
next_fits p k h (w ∷ ws) s = go (p w) refl
  where
    go : (o : Option _) → p w ≡ o → Fits (given o (λ a. k a ws))
    go None e = tt
    go (Some a) e = h w a ws s.0 e s.1

last_fits : (f : Form) → Fits f → (ws : List (List ℕ)) → Fits (last f ws)
last_fits f h [] = h
last_fits f h (w ∷ ws) = tt

bytes-half : (w : List ℕ) → length (bytes_of w) ≤ length w / 2
unfolding bytes_of
bytes-half [] = omega arith
bytes-half (a ∷ []) = omega arith
bytes-half (a ∷ b ∷ w) = let h = bytes-half w in omega arith

hex_fits : (w b : List ℕ) → length w ≤ longest → hex_in w ≡ Some b → length b ≤ room_for_data
unfolding hex_in
hex_fits w b h e = go (leb 2 (length w) && (eqb (length w % 2) 0 && every is_hex w)) e
  where
    go : (t : Bool) → cond t (Some (bytes_of w)) None ≡ Some b → length b ≤ room_for_data
    go true k = let q : bytes_of w ≡ b = cc in let m = bytes-half w in subst (λ (xs : List ℕ). length xs ≤ room_for_data) q (omega arith)
    go false k = absurd (let z : ◌≡◌ {A = ℕ} 0 1 = cc in omega arith)

-- what is left of a form after some of its words
abbrev mb_5 : ℕ → ℕ → Kind → ℕ → ℕ → List (List ℕ) → Form
mb_5 q a t y c = next hex_in (λ d. last (mb q a t y c d))

abbrev mb_4 : ℕ → ℕ → Kind → ℕ → List (List ℕ) → Form
mb_4 q a t y = next (number_in 255) (mb_5 q a t y)

abbrev mb_3 : ℕ → ℕ → Kind → List (List ℕ) → Form
mb_3 q a t = next (number_in 255) (mb_4 q a t)

abbrev mb_2 : ℕ → ℕ → List (List ℕ) → Form
mb_2 q a = next kind_in (mb_3 q a)

abbrev mb_1 : ℕ → List (List ℕ) → Form
mb_1 q = next (number_in 1) (mb_2 q)

mb_fits : (ws : List (List ℕ)) → Short longest ws → Fits (mb_form ws)
unfolding mb_form
mb_fits =
    next_fits (number_in 65535) mb_1
    (λ _ q ws _ _. next_fits (number_in 1) (mb_2 q)
    (λ _ a ws _ _. next_fits kind_in (mb_3 q a)
    (λ _ t ws _ _. next_fits (number_in 255) (mb_4 q a t)
    (λ _ y ws _ _. next_fits (number_in 255) (mb_5 q a t y)
    (λ _ c ws _ _. next_fits hex_in (λ d. last (mb q a t y c d)) (λ w d ws h e _. last_fits (mb q a t y c d) (hex_fits w d h e) ws) ws) ws) ws) ws) ws)

abbrev picture_3 : ℕ → ℕ → ℕ → List (List ℕ) → Form
picture_3 w h d = next method_in (λ m. last (picture w h d m))

abbrev picture_2 : ℕ → ℕ → List (List ℕ) → Form
picture_2 w h = next (number_in 65535) (picture_3 w h)

abbrev picture_1 : ℕ → List (List ℕ) → Form
picture_1 w = next (number_in 65535) (picture_2 w)

picture_fits : (ws : List (List ℕ)) → Short longest ws → Fits (picture_form ws)
unfolding picture_form
picture_fits =
    next_fits (number_in 65535) picture_1
    (λ _ w ws _ _. next_fits (number_in 65535) (picture_2 w)
    (λ _ h ws _ _. next_fits (number_in 65535) (picture_3 w h)
    (λ _ d ws _ _. next_fits method_in (λ m. last (picture w h d m)) (λ _ m ws _ _ _. last_fits (picture w h d m) tt ws) ws) ws) ws)

cond_fits : (t : Bool) (f g : Form) → Fits f → Fits g → Fits (cond t f g)
cond_fits true f g a b = a
cond_fits false f g a b = b

by_fits : (ws : List (List ℕ)) → Short longest ws → Fits (form_by ws)
by_fits [] s = tt
by_fits (k ∷ ws) s =
    cond_fits (same k picture_word) (picture_form ws) (cond (same k mb_word) (mb_form ws) malformed) (picture_fits ws s.1)
    (cond_fits (same k mb_word) (mb_form ws) malformed (mb_fits ws s.1) tt)

-- ---- any line

pub form_fits : (l : List ℕ) → Fits (form_of l)
unfolding form_of
form_fits l = go (leb (length l) longest) refl
  where
    inner : List ℕ
    inner = take (length l - 2) (drop 1 l)

    f : Form
    f = form_by (words inner)

    closed : Form
    closed = cond (eqb (get_or l (length l - 1) 0) 41) f malformed

    opened : Form
    opened = cond (eqb (get_or l 0 0) 40) closed malformed

    inner_short : length l ≤ longest → Short longest (words inner)
    inner_short h = short_in (length inner) longest (simp (length-take, length-drop) (omega arith)) (words inner) (words_short inner)

    go : (t : Bool) → leb (length l) longest ≡ t → Fits (cond t (cond (leb 2 (length l)) opened malformed) malformed)
    go true e =
        cond_fits (leb 2 (length l)) opened malformed
        (cond_fits (eqb (get_or l 0 0) 40) closed malformed
        (cond_fits (eqb (get_or l (length l - 1) 0) 41) f malformed (by_fits (words inner) (inner_short (leb-true (length l) longest e))) tt)
        tt)
        tt
    go false e = tt
