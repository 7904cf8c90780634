-- `prediction::predictor::direction_of` meets its contract: its test is the definition's. Assumes nothing.
use mathlib.Core.Path.{◌≡◌, ap, ◌∙◌}
use Prim.Native.Nat.{ℕ, ◌≤◌}
use lib.IntN.{ℤ, nat_abs, ◌-ℤ◌}
use mir.Syntax.{w32}
use mir.Val.{of_z, to_z}
use borrow.Author.Tests.{lt-ltb, le-ltb}
use Rattle.numbers.proofs.Expressions.{loc, ◌⊟◌, back}
use Rattle.prediction.proofs.predictor.direction_of.Goals as goal

-- a gradient
gradient : (x y : ℤ) → nat_abs x ≤ 65536 → nat_abs y ≤ 65536 → (n : ℕ) → n ≡ nat_abs (to_z w32 (of_z w32 (to_z w32 (of_z w32 x) -ℤ to_z w32 (of_z w32 y)))) → n ≡ nat_abs (x -ℤ y)
gradient x y h k n e = e ∙ ap nat_abs (back {w = w32} (loc x 65536 h ⊟ loc y 65536 k) tt)

pub returns-then-unsigned_abs : goal.returns-then-unsigned_abs
returns-then-unsigned_abs c =
    let a = c.args in
    let r = c.requires in
    rw (← gradient a.fa a.fb r.0 r.1 _ c.unsigned_abs.ensures.value, ← gradient a.fb a.fc r.1 r.2 _ c.unsigned_abs-2.ensures.value, lt-ltb _ _ c.if-unsigned_abs.true)

pub returns-else-unsigned_abs : goal.returns-else-unsigned_abs
returns-else-unsigned_abs c =
    let a = c.args in
    let r = c.requires in
    rw (← gradient a.fa a.fb r.0 r.1 _ c.unsigned_abs.ensures.value, ← gradient a.fb a.fc r.1 r.2 _ c.unsigned_abs-2.ensures.value, le-ltb _ _ c.if-unsigned_abs.false)
