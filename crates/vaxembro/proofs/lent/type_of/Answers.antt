-- `vaxembro::lent::type_of` meets its contract. Assumes nothing.
use Rattle.std.proofs.Common.{◌≡◌, ap, arith, eqb, false, sym}
use borrow.Author.Tests.{ne_eqb}
use Rattle.vaxembro.specs.Lent.{type_of}
use Rattle.vaxembro.proofs.lent.type_of.Goals as goal

pub returns-in-1 : goal.returns-in-1
unfolding type_of
returns-in-1 c = ap type_of (sym c.in-1.is)

pub returns-in-2 : goal.returns-in-2
unfolding type_of
returns-in-2 c = ap type_of (sym c.in-2.is)

pub returns-in-3 : goal.returns-in-3
unfolding type_of
returns-in-3 c = ap type_of (sym c.in-3.is)

pub returns-in-4 : goal.returns-in-4
unfolding type_of
returns-in-4 c = ap type_of (sym c.in-4.is)

pub returns-in-5 : goal.returns-in-5
unfolding type_of
returns-in-5 c = ap type_of (sym c.in-5.is)

pub returns-in_default : goal.returns-in_default
unfolding type_of
returns-in_default c =
    let n = c.args.mb_type in
    let e1 : eqb n 1 ≡ false = ne_eqb n 1 (λ e. omega arith) in
    let e2 : eqb n 2 ≡ false = ne_eqb n 2 (λ e. omega arith) in
    let e3 : eqb n 3 ≡ false = ne_eqb n 3 (λ e. omega arith) in
    let e4 : eqb n 4 ≡ false = ne_eqb n 4 (λ e. omega arith) in
    let e5 : eqb n 5 ≡ false = ne_eqb n 5 (λ e. omega arith) in
    rw (e1, e2, e3, e4, e5)
