-- `window_reader::symbol::second_at` meets its contract: the window moved on to a later position. Assumes nothing.
use mathlib.Core.Path.{◌≡◌, ap, subst, ◌∙◌}
use Prim.Native.Nat.{ℕ, ◌+◌, ◌-◌, ◌*◌, ◌%◌, ◌^◌, ◌≤◌}
use native.Mathlib.Omega.{arith}
use Rattle.bits.proofs.AheadLaws.{moved_shift, window-length}
use Rattle.bits.specs.Ahead.{window}
use Rattle.window_reader.specs.Told.{EventSettled}
use borrow.Author.Rules.{rules}
use Rattle.window_reader.proofs.symbol.second_at.Statement.{statement}
use Rattle.window_reader.proofs.symbol.second_at.Tie as tie

overflow_sub-used : tie.Need-overflow_sub-used
overflow_sub-used c = search rules

unsettled-requires : tie.Need-unsettled-requires
unsettled-requires c κs = search rules

returns-then-used-gt19 : tie.Need-returns-then-used-gt19
returns-then-used-gt19 c = λ z. absurd (z c.unsettled.ensures)

overflow_cast-skip : tie.Need-overflow_cast-skip
overflow_cast-skip c = search rules

overflow_shl-w : tie.Need-overflow_shl-w
overflow_shl-w c = search rules

plain_at-requires : tie.Need-plain_at-requires
plain_at-requires c κs =
    let s = c.before.before.before.before in
    let p = s.requires in
    let a = s.args in
    let k : ℕ = a.next - a.at in
    let few : k ≤ 19 = c.if-used-gt19.false in
    let all : k ≤ 32 = omega arith in
    (p.0, p.1, few, ap (λ (x : ℕ). x * 2 ^ k % 4294967296) p.2 ∙ moved_shift (window a.«data».now a.at) k (window-length a.«data».now a.at) all)

returns : tie.Need-returns
returns c =
    let a = c.args in
    let e : a.at + (a.next - a.at) ≡ a.next = omega arith in
    subst (λ (n : ℕ). EventSettled a.«data».now n c.plain_at.result) e c.plain_at.ensures

pub second_at_spec : {M : Type 1} → statement M
second_at_spec =
    tie.close
    (tie.spec
    overflow_sub-used
    unsettled-requires
    returns-then-used-gt19
    overflow_cast-skip
    overflow_shl-w
    plain_at-requires
    returns)
