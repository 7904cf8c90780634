-- A line that is being read: n bytes of it came; from 32,769 on no more are counted. Definitions only.
use Rattle.std.specs.Prelude.{cond, ℕ, ◌+◌, eqb, leb}
use Rattle.forms.specs.Forms.{longest}
use Rattle.lines.specs.declared.fed.Fed.{Fed}
use Rattle.lines.specs.declared.fed.Fed.TheVariants.{Ended, Kept, Skipped}

abbrev pub longer : ℕ → ℕ
longer n = cond (leb n longest) (n + 1) n

-- a newline ends it; one that is too long is skipped
unfoldable pub fed_of : ℕ → ℕ → Fed
fed_of n b = cond (eqb b 10) (cond (leb n longest) (Ended n) Skipped) (Kept (longer n))

-- the end of the input: what came is a line too, if anything did
unfoldable pub rest_of : ℕ → Fed
rest_of n = cond (eqb n 0) (Kept 0) (cond (leb n longest) (Ended n) Skipped)
