-- The places of a block up to an end. Definitions only.
use Rattle.std.specs.Prelude.{cond, List, ℕ, ltb, ℤ, pos, get_or}
use Rattle.numbers.specs.Grid.{build}

-- 64 places, those from `end` on taken as 0
unfoldable pub up_to : ℕ → List ℤ → List ℤ
up_to end qfs = build 64 (λ (k : ℕ). cond (ltb k end) (get_or qfs k (pos 0)) (pos 0))
