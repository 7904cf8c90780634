-- `codes::first_bits::dc_plain` meets its contract: the constants are the definition computed. Assumes nothing.
use mathlib.Core.Path.{ap, sym, ◌∙◌}
use Prim.Native.Nat.{ℕ, ◌/◌}
use native.Mathlib.Omega.{arith}
use borrow.Author.Rules.{rules}
use Rattle.numbers.proofs.Fill.{get_or-build}
use Rattle.numbers.specs.Grid.{build}
use Rattle.codes.proofs.first_bits.dc_plain.Statement.{statement}
use Rattle.codes.specs.DcSize.{size_chrominance, size_luminance}
use Rattle.codes.specs.FirstBits.{size_in, size_plain}
use Rattle.codes.specs.declared.dc_size.DcComponent.{DcComponent}
use Rattle.codes.proofs.first_bits.dc_plain.Tie as tie

overflow_cast-first : tie.Need-overflow_cast-first
overflow_cast-first c = search rules

enum_told-1 : tie.Need-enum_told-1
enum_told-1 c = search rules

small_number-requires : tie.Need-small_number-requires
small_number-requires c κs = search rules

enum_told-in-Chrominance : tie.Need-enum_told-in-Chrominance
enum_told-in-Chrominance c = search rules

small_number-requires-in-Chrominance : tie.Need-small_number-requires-in-Chrominance
small_number-requires-in-Chrominance c κs = search rules

returns-in-Luminance : tie.Need-returns-in-Luminance
unfolding build size_in size_luminance
returns-in-Luminance c =
    let a = c.args in
    c.small_number.ensures
    ∙ get_or-build 64 (λ (k : ℕ). size_in size_luminance k) (a.window / 67108864) 0 (omega arith)
    ∙ ap (λ (t : DcComponent). size_plain t a.window) (sym c.in-Luminance.is)

returns-in-Chrominance : tie.Need-returns-in-Chrominance
unfolding build size_in size_chrominance
returns-in-Chrominance c =
    let a = c.args in
    c.small_number-in-Chrominance.ensures
    ∙ get_or-build 64 (λ (k : ℕ). size_in size_chrominance k) (a.window / 67108864) 0 (omega arith)
    ∙ ap (λ (t : DcComponent). size_plain t a.window) (sym c.in-Chrominance.is)

pub dc_plain_spec : {M : Type 1} → statement M
dc_plain_spec =
    tie.close
    (tie.spec
    overflow_cast-first
    enum_told-1
    small_number-requires
    enum_told-in-Chrominance
    small_number-requires-in-Chrominance
    returns-in-Luminance
    returns-in-Chrominance)
