-- What the tests of lent memory tell. Assumes nothing.
use mathlib.Core.Bool.{Bool, cond, false, true, ◌&&◌}
use mathlib.Core.Path.{◌≡◌, ap, sym, ◌∙◌}
use Prim.Native.Nat.{ℕ, ◌<◌, ◌≤◌}
use borrow.Author.Tests.{le-leb, leb-true, lt-leb}
use lib.Dec.{leb}
use Rattle.numbers.proofs.Tests.{both_true}
use Rattle.vaxembro.specs.Answer.{answer_length}
use Rattle.vaxembro.specs.Calls.{all_long}
use Rattle.vaxembro.specs.Fields.{header_length}

-- what is picked where memory is long enough, and where it is not
pub long-is : {A : Type 0} {b : Bool} {x z : A} (y : A) → b ≡ true → z ≡ x → z ≡ cond b x y
long-is {A} {b} {x} {z} y e h = h ∙ sym (ap (λ (t : Bool). cond t x y) e)

pub short_is : {A : Type 0} {b : Bool} {y : A} (x : A) → b ≡ false → y ≡ cond b x y
short_is {A} {b} {y} x e = sym (ap (λ (t : Bool). cond t x y) e)

module _ (least n w a : ℕ) where
  pub all_long_lem : least ≤ n → 64 ≤ w → all_long least n w a ≡ leb answer_length a
  unfolding all_long
  all_long_lem p q = rw (le-leb least n p, le-leb 64 w q)

  pub first_short : n < least → all_long least n w a ≡ false
  unfolding all_long
  first_short p = rw (lt-leb least n p)

  pub matrix_short : least ≤ n → w < 64 → all_long least n w a ≡ false
  unfolding all_long
  matrix_short p q = rw (le-leb least n p, lt-leb 64 w q)

-- what is long enough where all is
pub first_long : (least n w a : ℕ) → all_long least n w a ≡ true → least ≤ n
unfolding all_long
first_long least n w a e = leb-true least n (both_true (leb least n) (leb 64 w && leb answer_length a) e).0

pub matrix-long : (least n w a : ℕ) → all_long least n w a ≡ true → 64 ≤ w
unfolding all_long
matrix-long least n w a e = leb-true 64 w (both_true (leb 64 w) (leb answer_length a) (both_true (leb least n) (leb 64 w && leb answer_length a) e).1).0

-- where the header's numbers are asked for too: the others are too few, or these are
pub rest_short : {b : Bool} (h : ℕ) → b ≡ false → (b && leb header_length h) ≡ false
rest_short h e = rw e

pub header_short : {b : Bool} (h : ℕ) → b ≡ true → h < header_length → (b && leb header_length h) ≡ false
header_short h e l = rw (e, lt-leb header_length h l)
