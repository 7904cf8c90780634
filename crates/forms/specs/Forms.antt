-- The forms of document 01's section 'Edges': `(picture WIDTH HEIGHT DEPTH METHOD)` and `(mb QUANTISER ACPRED TYPE CBPY CBPC HEX)`. Definitions only.
use Rattle.std.specs.Prelude.{cond, List, [], ◌∷◌, ℕ, ◌-◌, eqb, leb, drop, get_or, length, take, Option, None, Some}
use Rattle.forms.specs.Words.{hex_in, number_in, same, words}
use Rattle.forms.specs.declared.kind.Kind.{Kind}
use Rattle.forms.specs.declared.kind.Kind.TheVariants.{Inter, Inter4V, InterQ, Intra, IntraQ, Missing, Skipped}

pub data Form : Type 0 where
  -- width, height, depth, method
  picture : ℕ → ℕ → ℕ → ℕ → Form
  -- quantiser, ac_pred, type, cbpy, cbpc, data
  mb : ℕ → ℕ → Kind → ℕ → ℕ → List ℕ → Form
  malformed : Form

-- ---- the words that are looked for

-- `picture`
unfoldable pub picture_word : List ℕ
picture_word = 112 ∷ 105 ∷ 99 ∷ 116 ∷ 117 ∷ 114 ∷ 101 ∷ []

-- `mb`
unfoldable pub mb_word : List ℕ
mb_word = 109 ∷ 98 ∷ []

unfoldable pub kind_word : Kind → List ℕ
kind_word Intra = 105 ∷ 110 ∷ 116 ∷ 114 ∷ 97 ∷ []  -- intra
kind_word IntraQ = 105 ∷ 110 ∷ 116 ∷ 114 ∷ 97 ∷ 113 ∷ []  -- intraq
kind_word Inter = 105 ∷ 110 ∷ 116 ∷ 101 ∷ 114 ∷ []  -- inter
kind_word InterQ = 105 ∷ 110 ∷ 116 ∷ 101 ∷ 114 ∷ 113 ∷ []  -- interq
kind_word Inter4V = 105 ∷ 110 ∷ 116 ∷ 101 ∷ 114 ∷ 52 ∷ 118 ∷ []  -- inter4v
kind_word Missing = 110 ∷ 111 ∷ 110 ∷ 101 ∷ []  -- none
kind_word Skipped = 115 ∷ 107 ∷ 105 ∷ 112 ∷ 112 ∷ 101 ∷ 100 ∷ []  -- skipped

-- the first of some kinds that a word names
abbrev pub first_named : List Kind → List ℕ → Option Kind
first_named [] w = None
first_named (k ∷ ks) w = cond (same w (kind_word k)) (Some k) (first_named ks w)

unfoldable pub kind_in : List ℕ → Option Kind
kind_in w = first_named (Intra ∷ IntraQ ∷ Inter ∷ InterQ ∷ Inter4V ∷ Missing ∷ Skipped ∷ []) w

-- ---- a form, word after word

-- what a word gives to the form, or no form
abbrev pub given : {A : Type 0} → Option A → (A → Form) → Form
given None k = malformed
given (Some a) k = k a

-- the next word, read by p, then the rest
abbrev pub next : {A : Type 0} → (List ℕ → Option A) → (A → List (List ℕ) → Form) → List (List ℕ) → Form
next p k [] = malformed
next p k (w ∷ ws) = given (p w) (λ a. k a ws)

-- no word more
abbrev pub last : Form → List (List ℕ) → Form
last f [] = f
last f (w ∷ ws) = malformed

-- METHOD is 1 or 2
unfoldable pub method_in : List ℕ → Option ℕ
method_in w = not_zero (number_in 2 w)
  where
    not_zero : Option ℕ → Option ℕ
    not_zero None = None
    not_zero (Some n) = cond (eqb n 0) None (Some n)

unfoldable pub picture_form : List (List ℕ) → Form
picture_form = next (number_in 65535) (λ w. next (number_in 65535) (λ h. next (number_in 65535) (λ d. next method_in (λ m. last (picture w h d m)))))

unfoldable pub mb_form : List (List ℕ) → Form
mb_form = next (number_in 65535) (λ q. next (number_in 1) (λ a. next kind_in (λ t. next (number_in 255) (λ y. next (number_in 255) (λ c. next hex_in (λ d. last (mb q a t y c d)))))))

abbrev pub form_by : List (List ℕ) → Form
form_by [] = malformed
form_by (k ∷ ws) = cond (same k picture_word) (picture_form ws) (cond (same k mb_word) (mb_form ws) malformed)

-- the longest line that is no malformed one
abbrev pub longest : ℕ
longest = 32768

-- a line of at most 32,768 bytes: a bracket, words parted by one space, a bracket
unfoldable pub form_of : List ℕ → Form
form_of l =
    cond (leb (length l) longest)
    (cond (leb 2 (length l))
    (cond (eqb (get_or l 0 0) 40) (cond (eqb (get_or l (length l - 1) 0) 41) (form_by (words (take (length l - 2) (drop 1 l)))) malformed) malformed)
    malformed)
    malformed
