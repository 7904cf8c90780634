-- `window_reader::symbol::type2_at` meets its contract: a row after the escape and 10, its run raised by RMAX + 1. Assumes nothing.
use mathlib.Core.Path.{refl, sym, ap, ◌∙◌}
use Prim.Native.Nat.{ℕ, ◌+◌, ◌*◌, ◌/◌, ◌%◌, ◌≤◌}
use native.Mathlib.Omega.{arith}
use Rattle.bits.proofs.AheadLaws.{moved_val, window-length}
use Rattle.bits.specs.Ahead.{window}
use Rattle.codes.proofs.FirstBitsLaws.{rmax_lt}
use Rattle.window_reader.proofs.EventLaws.{type2-told}
use Rattle.window_reader.proofs.SymbolLaws.{row_bounds, signed_back}
use Rattle.window_reader.specs.Told.{RowTold}
use borrow.Author.Rules.{rules}
use Rattle.window_reader.proofs.symbol.type2_at.Statement.{statement}
use Rattle.window_reader.proofs.symbol.type2_at.Tie as tie

-- the row that was read
told : (k : tie.Else-one-eq0) → let s = k.before.before.before.before.before.before in RowTold s.args.«data».now s.args.at 9 k.row_at-one.result
told k = k.row_at-one.ensures k.if-one-eq0.false

overflow_mul-w : tie.Need-overflow_mul-w
overflow_mul-w c = search rules

row_at-one-requires : tie.Need-row_at-one-requires
row_at-one-requires c κs =
    let s = c.before.before.before in
    let w = window s.args.«data».now s.args.at in
    let p = s.requires in
    (p.0, p.1, omega arith, ap (λ (x : ℕ). x % 8388608 * 512) p.2 ∙ sym (moved_val w 9 23 (window-length s.args.«data».now s.args.at)))

unsettled-requires : tie.Need-unsettled-requires
unsettled-requires c κs = search rules

returns-then-one-eq0 : tie.Need-returns-then-one-eq0
returns-then-one-eq0 c = λ z. absurd (z c.unsettled.ensures)

overflow_mul-one : tie.Need-overflow_mul-one
overflow_mul-one c = let b = row_bounds (told c.before) in omega (arith, b.last-lt)

overflow_add-one : tie.Need-overflow_add-one
overflow_add-one c = let b = row_bounds (told c.before.before) in omega (arith, b.last-lt, b.size-lt)

overflow_cast-one : tie.Need-overflow_cast-one
overflow_cast-one c = search rules

rmax_intra-more-requires : tie.Need-rmax_intra-more-requires
rmax_intra-more-requires c κs = search rules

-- the raised run is small
small : (c : tie.After-struct_known-5-1) → c.row_at-one.result.run + c.rmax_intra-more.result ≤ 64
small c =
    let b = row_bounds (told c.before.before.before.before.before) in
    let m = c.rmax_intra-more.ensures in
    omega (arith, b.run_lt, rmax_lt (32 * c.row_at-one.result.last + c.row_at-one.result.size))

overflow_add-result : tie.Need-overflow_add-result
overflow_add-result c = omega (arith, small c)

overflow_add-result-2 : tie.Need-overflow_add-result-2
overflow_add-result-2 c = omega (arith, small c)

with_sign-requires : tie.Need-with_sign-requires
with_sign-requires c κs = let b = row_bounds (told c.before.before.before.before.before) in omega (arith, b.size-lt)

returns : tie.Need-returns
returns c = λ z.
    let e = c.before.before.before.before.before.before in
    let s = e.before.before.before.before.before.before in
    let p = s.requires in
    let r = e.row_at-one.result in
    let b = row_bounds (told e) in
    let m = c.rmax_intra-more in
    type2-told s.args.«data».now s.args.at r (told e) (ap (λ (x : ℕ). x / 33554432) (sym p.2) ∙ p.3) (ap (λ (x : ℕ). x / 8388608 % 4) (sym p.2) ∙ p.4) _ refl refl
    (ap (λ (x : ℕ). r.run + x + 1) m.ensures) (signed_back r.sign r.size (omega (arith, b.size-lt)) c.with_sign.ensures) refl

pub type2_at_spec : {M : Type 1} → statement M
type2_at_spec =
    tie.close
    (tie.spec
    overflow_mul-w
    row_at-one-requires
    unsettled-requires
    returns-then-one-eq0
    overflow_mul-one
    overflow_add-one
    overflow_cast-one
    rmax_intra-more-requires
    overflow_add-result
    overflow_add-result-2
    with_sign-requires
    returns)
