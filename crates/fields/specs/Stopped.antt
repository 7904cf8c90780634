-- A clip that stopped is told from one that is bad: its refusal says that the bits ended, by 1 or by 17. Definitions only.
use Rattle.std.specs.Prelude.{Bool, ◌||◌, ℕ, T, eqb}
use Rattle.fields.specs.Reader.{Res, no, ok}
use Rattle.fields.specs.Refusal.{number_of}

abbrev pub stopped : ℕ → Bool
stopped n = eqb n 1 || eqb n 17

-- the reader refuses the bits by one of the two
abbrev pub Stops : {A : Type 0} → Res A → Type 0
Stops (ok a r) = ⊥
Stops (no e) = T (stopped (number_of e))
