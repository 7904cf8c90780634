use Rattle.std.proofs.Common.{List, get_or, pos, ℕ, ℤ, ◌+◌, ◌≡◌, ◌≤◌}
use Rattle.numbers.proofs.Fill.{part}
use Rattle.record.proofs.record.seven.Given as goal

abbrev pub f : List ℤ → ℕ → ℕ → ℤ
f s at k = get_or s (at + k) (pos 0)

abbrev pub z : ℕ → ℤ
z k = pos 0

-- the numbers before k are written
abbrev pub invariant-loop-k : goal.invariant-loop-k
invariant-loop-k l = (l.k ≤ 7) × (l.out ≡ part 7 (f l.s l.at) z l.k)
