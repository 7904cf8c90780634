-- `window_reader::symbol::type1_at` meets its contract: a row after the escape and 0, its magnitude raised by LMAX. Assumes nothing.
use mathlib.Core.Path.{refl, sym, ap, ◌∙◌}
use Prim.Native.Nat.{ℕ, ◌+◌, ◌*◌, ◌/◌, ◌%◌, ◌≤◌}
use native.Mathlib.Omega.{arith}
use Rattle.bits.proofs.AheadLaws.{moved_val, window-length}
use Rattle.bits.specs.Ahead.{window}
use Rattle.codes.proofs.FirstBitsLaws.{lmax_lt}
use Rattle.window_reader.proofs.EventLaws.{type1-told}
use Rattle.window_reader.proofs.SymbolLaws.{row_bounds, signed_back}
use Rattle.events.specs.Event.{signed_by}
use Rattle.window_reader.specs.Told.{RowTold}
use borrow.Author.Rules.{rules}
use Rattle.window_reader.proofs.symbol.type1_at.Statement.{statement}
use Rattle.window_reader.proofs.symbol.type1_at.Tie as tie

-- the row that was read
told : (k : tie.Else-one-eq0) → let s = k.before.before.before.before.before.before in RowTold s.args.«data».now s.args.at 8 k.row_at-one.result
told k = k.row_at-one.ensures k.if-one-eq0.false

overflow_mul-w : tie.Need-overflow_mul-w
overflow_mul-w c = search rules

row_at-one-requires : tie.Need-row_at-one-requires
row_at-one-requires c κs =
    let s = c.before.before.before in
    let w = window s.args.«data».now s.args.at in
    let p = s.requires in
    (p.0, p.1, omega arith, ap (λ (x : ℕ). x % 16777216 * 256) p.2 ∙ sym (moved_val w 8 24 (window-length s.args.«data».now s.args.at)))

unsettled-requires : tie.Need-unsettled-requires
unsettled-requires c κs = search rules

returns-then-one-eq0 : tie.Need-returns-then-one-eq0
returns-then-one-eq0 c = λ z. absurd (z c.unsettled.ensures)

overflow_mul-one : tie.Need-overflow_mul-one
overflow_mul-one c = let b = row_bounds (told c.before) in omega (arith, b.last-lt)

overflow_add-one : tie.Need-overflow_add-one
overflow_add-one c = let b = row_bounds (told c.before.before) in omega (arith, b.last-lt, b.run_lt)

overflow_cast-one : tie.Need-overflow_cast-one
overflow_cast-one c = search rules

lmax_intra-more-requires : tie.Need-lmax_intra-more-requires
lmax_intra-more-requires c κs = search rules

-- the raised magnitude is small
small : (c : tie.After-struct_known-5-1) → c.row_at-one.result.size + c.lmax_intra-more.result ≤ 64
small c =
    let b = row_bounds (told c.before.before.before.before.before) in
    let m = c.lmax_intra-more.ensures in
    omega (arith, b.size-lt, lmax_lt (64 * c.row_at-one.result.last + c.row_at-one.result.run))

overflow_add-one-2 : tie.Need-overflow_add-one-2
overflow_add-one-2 c = omega (arith, small c)

with_sign-requires : tie.Need-with_sign-requires
with_sign-requires c κs = small c

returns : tie.Need-returns
returns c = λ z.
    let e = c.before.before.before.before.before.before in
    let s = e.before.before.before.before.before.before in
    let p = s.requires in
    let r = e.row_at-one.result in
    let m = c.lmax_intra-more in
    type1-told s.args.«data».now s.args.at r (told e) (ap (λ (x : ℕ). x / 33554432) (sym p.2) ∙ p.3) (ap (λ (x : ℕ). x / 16777216 % 2) (sym p.2) ∙ p.4) _ refl refl refl
    (signed_back r.sign (r.size + m.result) (omega (arith, small c.before)) c.with_sign.ensures ∙ ap (λ (x : ℕ). signed_by r.sign (r.size + x)) m.ensures) refl

pub type1_at_spec : {M : Type 1} → statement M
type1_at_spec =
    tie.close
    (tie.spec
    overflow_mul-w
    row_at-one-requires
    unsettled-requires
    returns-then-one-eq0
    overflow_mul-one
    overflow_add-one
    overflow_cast-one
    lmax_intra-more-requires
    overflow_add-one-2
    with_sign-requires
    returns)
