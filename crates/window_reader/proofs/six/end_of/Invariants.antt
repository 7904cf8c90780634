-- The loop of `window_reader::six::end_of`: the places before the index are 0. Assumes nothing.
use Rattle.std.proofs.Common.{get_or, ℕ, ◌<◌, ◌≡◌}
use lib.IntN.{pos}
use Rattle.window_reader.proofs.six.end_of.Given as goal

abbrev pub invariant-loop-q : goal.invariant-loop-q
invariant-loop-q l = (k : ℕ) → k < l.q-index → get_or l.q-items k (pos 0) ≡ pos 0
