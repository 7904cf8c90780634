-- What is lent has room, or nothing is done. Assumes nothing.
use mathlib.Core.Bool.{Bool, cond, false, true, ◌&&◌}
use mathlib.Core.List.{List}
use mathlib.Core.Path.{◌≡◌, ap, sym, ◌∙◌}
use Prim.Native.Nat.{ℕ, ◌<◌, ◌≤◌}
use lib.Dec.{leb}
use lib.ListN.{length}
use borrow.Author.Tests.{le-leb, leb-true, lt-leb}
use Rattle.numbers.proofs.Tests.{both_true}
use Rattle.forms.specs.Forms.{longest}
use Rattle.forms.specs.Reading.{room_for_data}
use Rattle.still_lines.specs.Steps.{room_for_text, roomy}

module _ (line bytes out : List ℕ) where
  pub line_lacks : length line < longest → roomy line bytes out ≡ false
  line_lacks h = rw (lt-leb longest (length line) h)

  module _ (l : longest ≤ length line) where
    pub data_lacks : length bytes < room_for_data → roomy line bytes out ≡ false
    data_lacks h = rw (le-leb longest (length line) l, lt-leb room_for_data (length bytes) h)

    pub text_decides : room_for_data ≤ length bytes → roomy line bytes out ≡ leb room_for_text (length out)
    text_decides h = rw (le-leb longest (length line) l, le-leb room_for_data (length bytes) h)

  module _ (e : roomy line bytes out ≡ true) where
    rest : (leb room_for_data (length bytes) && leb room_for_text (length out)) ≡ true
    rest = (both_true (leb longest (length line)) (leb room_for_data (length bytes) && leb room_for_text (length out)) e).1

    pub room_line : longest ≤ length line
    room_line = leb-true longest (length line) (both_true (leb longest (length line)) (leb room_for_data (length bytes) && leb room_for_text (length out)) e).0

    pub room_data : room_for_data ≤ length bytes
    room_data = leb-true room_for_data (length bytes) (both_true (leb room_for_data (length bytes)) (leb room_for_text (length out)) rest).0

    pub room_text : room_for_text ≤ length out
    room_text = leb-true room_for_text (length out) (both_true (leb room_for_data (length bytes)) (leb room_for_text (length out)) rest).1

-- ---- by a test: it is done, or all is as before

module _ {A : Type 0} {t : Bool} (a b : A) where
  pub done : {x : A} → t ≡ true → x ≡ a → x ≡ cond t a b
  done e f = f ∙ sym (ap (λ (t : Bool). cond t a b) e)

  pub undone : t ≡ false → b ≡ cond t a b
  undone e = sym (ap (λ (t : Bool). cond t a b) e)
