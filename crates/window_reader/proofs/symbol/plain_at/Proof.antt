-- `window_reader::symbol::plain_at` meets its contract: a row and its sign are a plain event. Assumes nothing.
use mathlib.Core.Path.{refl}
use native.Mathlib.Omega.{arith}
use Rattle.window_reader.proofs.EventLaws.{plain-told}
use Rattle.window_reader.proofs.SymbolLaws.{row_bounds, signed_back}
use Rattle.window_reader.specs.Told.{RowTold}
use borrow.Author.Rules.{rules}
use Rattle.window_reader.proofs.symbol.plain_at.Statement.{statement}
use Rattle.window_reader.proofs.symbol.plain_at.Tie as tie

-- the row that was read
told : (k : tie.Else-one-eq0) → let s = k.before.before.before.before.before.before in RowTold s.args.«data».now s.args.at s.args.skip k.row_at-one.result
told k = k.row_at-one.ensures k.if-one-eq0.false

row_at-one-requires : tie.Need-row_at-one-requires
row_at-one-requires c κs = search rules

unsettled-requires : tie.Need-unsettled-requires
unsettled-requires c κs = search rules

returns-then-one-eq0 : tie.Need-returns-then-one-eq0
returns-then-one-eq0 c = λ z. absurd (z c.unsettled.ensures)

with_sign-requires : tie.Need-with_sign-requires
with_sign-requires c κs = let b = row_bounds (told c.before) in omega (arith, b.size-lt)

returns : tie.Need-returns
returns c = λ z.
    let e = c.before.before in
    let s = e.before.before.before.before.before.before in
    let r = e.row_at-one.result in
    let b = row_bounds (told e) in
    plain-told s.args.«data».now s.args.at s.args.skip r (told e) _ refl refl refl
    (signed_back r.sign r.size (omega (arith, b.size-lt)) c.with_sign.ensures) refl

pub plain_at_spec : {M : Type 1} → statement M
plain_at_spec =
    tie.close (tie.spec row_at-one-requires unsettled-requires returns-then-one-eq0 with_sign-requires returns)
