-- `codes::cbpy_short` meets its contract: the constants are the definition computed. Assumes nothing.
use mathlib.Core.Path.{◌∙◌}
use Prim.Native.Nat.{ℕ, ◌/◌}
use native.Mathlib.Omega.{arith}
use borrow.Author.Rules.{rules}
use Rattle.numbers.proofs.Fill.{get_or-build}
use Rattle.numbers.specs.Grid.{build}
use Rattle.codes.proofs.header_tables.cbpy_short.Statement.{statement}
use Rattle.codes.specs.Header.{cbpy_codes, cbpy_intra, cbpy_lens, cbpy_short, short_row}
use Rattle.codes.specs.Table.{seek}
use Rattle.codes.proofs.header_tables.cbpy_short.Tie as tie

overflow_cast-window : tie.Need-overflow_cast-window
overflow_cast-window c = search rules

small_number-requires : tie.Need-small_number-requires
small_number-requires c κs = search rules

returns : tie.Need-returns
unfolding build cbpy_short cbpy_codes cbpy_lens cbpy_intra seek
returns c =
    let a = c.args in
    c.small_number.ensures ∙ get_or-build 64 (λ (k : ℕ). short_row cbpy_codes cbpy_lens 16 k) (a.window / 67108864) 0 (omega arith)

pub cbpy_short_spec : {M : Type 1} → statement M
cbpy_short_spec = tie.close (tie.spec overflow_cast-window small_number-requires returns)
