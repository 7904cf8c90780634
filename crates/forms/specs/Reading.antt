-- What the code's answer to a line is, by the form; and, inside the crate, words by their places in the line. Definitions only.
use Rattle.std.specs.Prelude.{Bool, cond, false, true, List, [], ◌∷◌, ◌≡◌, ℕ, ◌+◌, ◌-◌, ◌<◌, ◌≤◌, eqb, leb, drop, length, take, None, Some, Option}
use Rattle.std.proofs.Math.Seq.{paste}
use Rattle.forms.specs.Forms.{Form, form_of, last, malformed, mb, next, picture}
use Rattle.forms.specs.Words.{hex_in, number_in, words}
use Rattle.forms.specs.declared.kind.Kind.{Kind}
use Rattle.forms.specs.declared.line.Line.{Line}
use Rattle.forms.specs.declared.line.Line.TheVariants.{Macroblock, Malformed, Picture, TooShort}

-- the numbers of a form; of the data the number of bytes
abbrev pub line_of : Form → Line
line_of (picture w h d m) = Picture w h d m
line_of (mb q a t y c d) = Macroblock q a t y c (length d)
line_of malformed = Malformed

-- the lent data: its first bytes are the form's, the rest as before
abbrev pub data_of : Form → List ℕ → List ℕ
data_of (picture w h d m) old = old
data_of (mb q a t y c d) old = paste old 0 d (length d)
data_of malformed old = old

-- 16,384 bytes hold the data of every line that is a form; where fewer are lent that is the answer (14), whatever the line, and they stay as they were
abbrev pub room_for_data : ℕ
room_for_data = 16384

abbrev pub parsed : List ℕ → List ℕ → Line
parsed l old = cond (leb room_for_data (length old)) (line_of (form_of l)) TooShort

abbrev pub data_after : List ℕ → List ℕ → List ℕ
data_after l old = cond (leb room_for_data (length old)) (data_of (form_of l) old) old

-- ---- inside the crate

-- the bytes from a place up to another
abbrev pub part : List ℕ → ℕ → ℕ → List ℕ
part l from to = take (to - from) (drop from l)

-- the words from a place up to the closing bracket; past it there are none
abbrev pub words_from : List ℕ → ℕ → ℕ → List (List ℕ)
words_from l from to = cond (leb from to) (words (part l from to)) []

-- what a reading of one word as a number tells of the words that are left: the first was read as v, and those after it begin at `at`; or there is none, or it is no such number
abbrev pub field_by : (List ℕ → Option ℕ) → List (List ℕ) → Option ℕ
field_by p [] = None
field_by p (w ∷ ws) = p w

abbrev pub others : List (List ℕ) → List (List ℕ)
others [] = []
others (w ∷ ws) = ws

abbrev pub Says : (List ℕ → Option ℕ) → List ℕ → ℕ → ℕ → Option (ℕ × ℕ) → Type 0
Says p l from to (Some (v, at)) = (field_by p (words_from l from to) ≡ Some v) × ((words_from l at to ≡ others (words_from l from to)) × ((from < at) × (at ≤ to + 1)))
Says p l from to None = field_by p (words_from l from to) ≡ None

-- where the word at `from` ends: at the first space, or at `to`
abbrev pub space_in : List ℕ → ℕ
space_in [] = 0
space_in (b ∷ bs) = cond (eqb b 32) 0 (space_in bs + 1)

abbrev pub end_of : List ℕ → ℕ → ℕ → ℕ
end_of l from to = from + space_in (part l from to)

abbrev pub there : {A : Type 0} → Option A → Bool
there None = false
there (Some a) = true

-- a macroblock's form from its data on, and from its pattern on
unfoldable pub data_form : ℕ → ℕ → Kind → ℕ → ℕ → List (List ℕ) → Form
data_form q a t y c = next hex_in (λ d. last (mb q a t y c d))

unfoldable pub pattern_form : ℕ → ℕ → Kind → List (List ℕ) → Form
pattern_form q a t = next (number_in 255) (λ y. next (number_in 255) (λ c. data_form q a t y c))
