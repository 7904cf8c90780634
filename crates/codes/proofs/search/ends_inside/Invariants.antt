-- The loop of `codes::ends_inside`: the search goes on from row i. Assumes nothing.
use Rattle.std.proofs.Common.{Bool, List, get_or, ℕ, ◌-◌, ◌≡◌}
use Rattle.codes.specs.Table.{cut, seek}
use Rattle.codes.proofs.search.ends_inside.Given as goal

-- the code of row i is cut
abbrev pub at : List ℕ → List ℕ → ℕ → ℕ → ℕ → Bool
at cs ls w n i = cut w n (get_or cs i 0) (get_or ls i 0)

abbrev pub invariant-loop-i : goal.invariant-loop-i
invariant-loop-i l = seek (at l.codes l.lens l.window l.n) l.to 0 ≡ seek (at l.codes l.lens l.window l.n) (l.to - l.i) l.i
