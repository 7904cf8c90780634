-- `window_reader::symbol::event_at` meets its contract: a plain event, or an escape. Assumes nothing.
use mathlib.Core.List.{append-nil}
use mathlib.Core.Path.{sym, ap, subst, ◌∙◌}
use Prim.Native.Nat.{ℕ}
use native.Mathlib.Nat.{add-zero}
use native.Mathlib.Omega.{arith}
use Rattle.bits.specs.Ahead.{window}
use Rattle.bits.specs.Bits.{val}
use Rattle.window_reader.specs.Told.{EventSettled}
use borrow.Author.Rules.{rules}
use Rattle.window_reader.proofs.symbol.event_at.Statement.{statement}
use Rattle.window_reader.proofs.symbol.event_at.Tie as tie

plain_at-one-requires : tie.Need-plain_at-one-requires
plain_at-one-requires c κs =
    let s = c.before.before.before in
    let p = s.requires in
    (p.0, p.1, omega arith, p.2 ∙ ap val (sym (append-nil (window s.args.«data».now s.args.at))))

escape_at-requires : tie.Need-escape_at-requires
escape_at-requires c κs = search rules

returns-then-one-eq0 : tie.Need-returns-then-one-eq0
returns-then-one-eq0 c = search rules

returns : tie.Need-returns
returns c =
    let m = c.before.before in
    let a = m.args in
    subst (λ (n : ℕ). EventSettled a.«data».now n m.plain_at-one.result) (add-zero a.at) m.plain_at-one.ensures

pub event_at_spec : {M : Type 1} → statement M
event_at_spec = tie.close (tie.spec plain_at-one-requires escape_at-requires returns-then-one-eq0 returns)
