-- Filling a list of eight from the front, two stores a turn. Assumes nothing.
use mathlib.Core.List.{List}
use mathlib.Core.Path.{◌≡◌, ap, ◌∙◌}
use Prim.Native.Nat.{ℕ, ◌+◌, ◌*◌, ◌≤◌, ◌<◌}
use native.Mathlib.Omega.{arith}
use lib.ListN.{set}
use Rattle.numbers.proofs.Fill.{cells_all, cells-more, part}
use Rattle.numbers.specs.Grid.{build}

module _ {A : Type 0} (f g : ℕ → A) where
  pub pair_more : (d : A) (l : List A) (p : ℕ) (x y : A) → p < 4 → l ≡ part 8 f g (2 * p) → x ≡ f (2 * p) → y ≡ f (2 * p + 1) → set (set l (2 * p) x) (2 * p + 1) y ≡ part 8 f g (2 * (p + 1))
  pair_more d l p x y h e a b =
      cells-more 8 f g d (set l (2 * p) x) (2 * p + 1) y (omega arith) (cells-more 8 f g d l (2 * p) x (omega arith) e a) b
      ∙ ap (part 8 f g) (omega arith)

  pub pairs_all : (l : List A) (p : ℕ) → 4 ≤ p → p ≤ 4 → l ≡ part 8 f g (2 * p) → l ≡ build 8 f
  pairs_all l p h k e = cells_all 8 f g l (2 * p) (omega arith) (omega arith) e
