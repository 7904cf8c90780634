-- `rounding::round_to_integer` meets its contract: the first test tells which values are refused, and each other one picks the definition's case. Assumes nothing.
use mathlib.Core.Bool.{true}
use mathlib.Core.Path.{◌≡◌}
use borrow.Author.Rules.{rules}
use Rattle.rounding.specs.Near.{Roundable, roundable}
use Rattle.rounding.proofs.Answers.{answers, refuses}
use Rattle.rounding.proofs.Rounds.{tie_small, next_fits, at_tie, plain-up, plain_down}
use Rattle.rounding.proofs.Sizes.{not_too_large, roundable_means, too_large}
use Rattle.rounding.proofs.round_to_integer.Statement.{statement}
use Rattle.rounding.proofs.round_to_integer.Tie as tie

-- the value is within the limits
module _ (c : tie.Else-not-magnitude) where
  taken : roundable c.args.value ≡ true
  taken = not_too_large c.args.value c.magnitude.result c.magnitude.ensures c.if-not-magnitude.false

  bounded : Roundable c.args.value
  bounded = roundable_means c.args.value c.well_formed.0.1 taken

magnitude-requires : tie.Need-magnitude-requires
magnitude-requires c κs = search rules

returns-then-not-magnitude : tie.Need-returns-then-not-magnitude
returns-then-not-magnitude c =
    let s = c.before.before in
    refuses s.args.rounding s.args.value (too_large s.args.value c.magnitude.result c.magnitude.ensures c.if-not-magnitude.true)

floor_of-below-requires : tie.Need-floor_of-below-requires
floor_of-below-requires c κs = bounded c

int_to_float-d : tie.Need-int_to_float-d
int_to_float-d c = search rules

magnitude-requires-2 : tie.Need-magnitude-requires-2
magnitude-requires-2 c κs = search rules

tie-requires : tie.Need-tie-requires
tie-requires c κs =
    let b = c.before.before.before in
    let e = b.before in
    tie_small e.args.value (bounded e) b.floor_of-below.result b.floor_of-below.ensures

returns-then-magnitude : tie.Need-returns-then-magnitude
returns-then-magnitude c =
    let g = c.before.before in
    let b = g.before.before in
    let e = b.before in
    let a = e.args in
    answers a.rounding a.value _ (taken e)
    (at_tie a.value (bounded e) b.floor_of-below.result b.floor_of-below.ensures a.rounding g.magnitude-2.result g.magnitude-2.ensures c.if-magnitude.true c.tie.result c.tie.type_inv c.tie.ensures)

returns-then-d : tie.Need-returns-then-d
returns-then-d c =
    let g = c.before.before in
    let b = g.before.before in
    let e = b.before in
    let a = e.args in
    answers a.rounding a.value _ (taken e)
    (plain_down a.value (bounded e) b.floor_of-below.result b.floor_of-below.ensures a.rounding g.magnitude-2.result g.magnitude-2.ensures c.if-magnitude.false c.if-d.true)

overflow_add-result : tie.Need-overflow_add-result
overflow_add-result c =
    let b = c.before.before.before.before in
    let e = b.before in
    next_fits e.args.value (bounded e) b.floor_of-below.result b.floor_of-below.ensures

returns : tie.Need-returns
returns c =
    let g = c.before.before in
    let b = g.before.before in
    let e = b.before in
    let a = e.args in
    answers a.rounding a.value _ (taken e)
    (plain-up a.value (bounded e) b.floor_of-below.result b.floor_of-below.ensures a.rounding g.magnitude-2.result g.magnitude-2.ensures c.if-magnitude.false c.if-d.false)

pub round_to_integer_spec : {M : Type 1} → statement M
round_to_integer_spec =
    tie.close
    (tie.spec
    magnitude-requires
    returns-then-not-magnitude
    floor_of-below-requires
    int_to_float-d
    magnitude-requires-2
    tie-requires
    returns-then-magnitude
    returns-then-d
    overflow_add-result
    returns)
