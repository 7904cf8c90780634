-- `window_reader::symbol::row_at` meets its contract: the fields of the moved window are a row and its sign. Assumes nothing.
use mathlib.Core.Path.{◌≡◌, refl, ap, ap₂, ◌∙◌}
use Prim.Native.Nat.{ℕ, ◌-◌, ◌/◌, ◌%◌, ◌^◌}
use Rattle.bits.specs.Bits.{val}
use Rattle.codes.specs.FirstBits.{long_rows, plain_in, short_rows}
use Rattle.window_reader.proofs.SymbolLaws.{row_told}
use Rattle.window_reader.specs.Told.{moved}
use borrow.Author.Rules.{rules}
use Rattle.window_reader.proofs.symbol.row_at.Statement.{statement}
use Rattle.window_reader.proofs.symbol.row_at.Tie as tie

tcoef_plain-e-requires : tie.Need-tcoef_plain-e-requires
tcoef_plain-e-requires c κs = search rules

returns-then-e-eq0 : tie.Need-returns-then-e-eq0
returns-then-e-eq0 c = λ z. absurd (z refl)

overflow_add-skip : tie.Need-overflow_add-skip
overflow_add-skip c = search rules

overflow_add-skip-2 : tie.Need-overflow_add-skip-2
overflow_add-skip-2 c = search rules

overflow_cast-skip : tie.Need-overflow_cast-skip
overflow_cast-skip c = search rules

overflow_add-at : tie.Need-overflow_add-at
overflow_add-at c = search rules

within-requires : tie.Need-within-requires
within-requires c κs = search rules

overflow_sub-result : tie.Need-overflow_sub-result
overflow_sub-result c = search rules

overflow_shr-result : tie.Need-overflow_shr-result
overflow_shr-result c = search rules

returns : tie.Need-returns
returns c =
    let s = c.before.before.before.before.before.before in
    let a = s.args in
    let p = s.requires in
    let e : ℕ = c.tcoef_plain-e.result in
    let w-is : a.w ≡ val (moved a.«data».now a.at a.skip) = p.3 in
    let is : e ≡ plain_in short_rows long_rows (val (moved a.«data».now a.at a.skip)) =
    c.tcoef_plain-e.ensures ∙ ap₂ (λ x y. plain_in x y a.w) p.1.0 p.1.1 ∙ ap (plain_in short_rows long_rows) w-is in
    row_told a.«data».now a.at a.skip p.2 _ e (e % 16) is c.if-e-eq0.false refl c.within.ensures refl refl refl
    (ap (λ (x : ℕ). x / 2 ^ (31 - e % 16) % 2) w-is)

pub row_at_spec : {M : Type 1} → statement M
row_at_spec =
    tie.close
    (tie.spec
    tcoef_plain-e-requires
    returns-then-e-eq0
    overflow_add-skip
    overflow_add-skip-2
    overflow_cast-skip
    overflow_add-at
    within-requires
    overflow_sub-result
    overflow_shr-result
    returns)
