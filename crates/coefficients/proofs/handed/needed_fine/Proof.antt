-- `coefficients::handed::needed_fine` meets its contract: its five tests are the definition's. Assumes nothing.
use mathlib.Core.Bool.{Bool, false, true, ◌&&◌}
use mathlib.Core.List.{List}
use mathlib.Core.Path.{◌≡◌, ap, refl, ◌∙◌}
use lib.IntN.{ℤ, nat_abs, pos}
use lib.ListN.{get_or}
use borrow.Author.Rules.{rules}
use Rattle.numbers.specs.Every.{every}
use Rattle.numbers.proofs.Tests.{flag_passes, flag_refuses}
use Rattle.numbers.proofs.Words.{held}
use Rattle.ranges.specs.Range.{dc_fine, level_fine, quantiser_fine}
use Rattle.coefficients.specs.Needed.{seven_in}
use Rattle.coefficients.proofs.handed.needed_fine.Statement.{statement}
use Rattle.coefficients.proofs.handed.needed_fine.Tie as tie

-- the numbers, from each place where a test is decided
abbrev n1 : tie.After-fine → List ℤ
n1 c = c.args.n.now

abbrev n2 : tie.After-fine-2 → List ℤ
n2 c = n1 c.before.before.before

abbrev n3 : tie.After-fine-3 → List ℤ
n3 c = n2 c.before.before.before

abbrev n4 : tie.After-fine-4 → List ℤ
n4 c = n3 c.before.before.before.before

-- the flags are the definition's tests
a_is : (c : tie.After-fine) → c.fine.result ≡ dc_fine (get_or (n1 c) 0 (pos 0))
a_is c = c.fine.ensures ∙ ap dc_fine (held (get_or (n1 c) 0 (pos 0)) c.fine-arg-1.given)

b_is : (c : tie.After-fine-2) → c.fine-2.result ≡ dc_fine (get_or (n2 c) 1 (pos 0))
b_is c = c.fine-2.ensures ∙ ap dc_fine (held (get_or (n2 c) 1 (pos 0)) c.fine-arg-2-1.given)

c-is : (c : tie.After-fine-3) → c.fine-3.result ≡ dc_fine (get_or (n3 c) 2 (pos 0))
c-is c = c.fine-3.ensures ∙ ap dc_fine (held (get_or (n3 c) 2 (pos 0)) c.fine-arg-3-1.given)

q_is : (c : tie.After-fine-4) → c.fine-4.result ≡ quantiser_fine (nat_abs (get_or (n4 c) 3 (pos 0)))
q_is c =
    let a = c.before in
    c.fine-4.ensures ∙ ap quantiser_fine (a.abs.ensures ∙ ap nat_abs (held (get_or (n4 c) 3 (pos 0)) a.abs-arg-1.given))

-- the values of either side are the same
same_twice : (b : Bool) → b ≡ b && b
same_twice true = refl
same_twice false = refl

-- a test that passed
a_ok : (c : tie.Else-not-fine) → dc_fine (get_or (n1 c.before) 0 (pos 0)) ≡ true
a_ok c = flag_passes (a_is c.before) c.if-not-fine.false

b_ok : (c : tie.Else-not-fine-2) → dc_fine (get_or (n2 c.before) 1 (pos 0)) ≡ true
b_ok c = flag_passes (b_is c.before) c.if-not-fine-2.false

c-ok : (c : tie.Else-not-fine-3) → dc_fine (get_or (n3 c.before) 2 (pos 0)) ≡ true
c-ok c = flag_passes (c-is c.before) c.if-not-fine-3.false

q_ok : (c : tie.Else-not-fine-4) → quantiser_fine (nat_abs (get_or (n4 c.before) 3 (pos 0))) ≡ true
q_ok c = flag_passes (q_is c.before) c.if-not-fine-4.false

-- from a test that passed, the one before it
abbrev e1 : tie.Else-not-fine-2 → tie.Else-not-fine
e1 c = c.before.before.before

abbrev e2 : tie.Else-not-fine-3 → tie.Else-not-fine-2
e2 c = c.before.before.before

abbrev e3 : tie.Else-not-fine-4 → tie.Else-not-fine-3
e3 c = c.before.before.before.before

bounds-n-0 : tie.Need-bounds-n-0
bounds-n-0 c = search rules

fine-requires : tie.Need-fine-requires
fine-requires c κs = search rules

returns-then-not-fine : tie.Need-returns-then-not-fine
returns-then-not-fine c = rw (flag_refuses (a_is c.before) c.if-not-fine.true)

bounds-n-1 : tie.Need-bounds-n-1
bounds-n-1 c = search rules

fine-requires-2 : tie.Need-fine-requires-2
fine-requires-2 c κs = search rules

returns-then-not-fine-2 : tie.Need-returns-then-not-fine-2
returns-then-not-fine-2 c = let d = c.before.before.before in rw (a_ok d, flag_refuses (b_is c.before) c.if-not-fine-2.true)

bounds-n-2 : tie.Need-bounds-n-2
bounds-n-2 c = search rules

fine-requires-3 : tie.Need-fine-requires-3
fine-requires-3 c κs = search rules

returns-then-not-fine-3 : tie.Need-returns-then-not-fine-3
returns-then-not-fine-3 c = let d = c.before.before.before in rw (a_ok (e1 d), b_ok d, flag_refuses (c-is c.before) c.if-not-fine-3.true)

bounds-n-3 : tie.Need-bounds-n-3
bounds-n-3 c = search rules

abs-requires : tie.Need-abs-requires
abs-requires c κs = search rules

fine-requires-4 : tie.Need-fine-requires-4
fine-requires-4 c κs = search rules

returns-then-not-fine-4 : tie.Need-returns-then-not-fine-4
returns-then-not-fine-4 c =
    let d = c.before.before.before.before in
    rw (a_ok (e1 (e2 d)), b_ok (e2 d), c-ok d, flag_refuses (q_is c.before) c.if-not-fine-4.true)

seven_in-requires : tie.Need-seven_in-requires
seven_in-requires c κs = search rules

all_levels-requires : tie.Need-all_levels-requires
all_levels-requires c κs = search rules

returns : tie.Need-returns
returns c =
    let d = c.before.before in
    let n = n4 d.before in
    let f = every level_fine (seven_in n) in
    rw (a_ok (e1 (e2 (e3 d))), b_ok (e2 (e3 d)), c-ok (e3 d), q_ok d) (c.all_levels.ensures ∙ ap (every level_fine) c.seven_in.ensures ∙ same_twice f)

pub needed_fine_spec : {M : Type 1} → statement M
needed_fine_spec =
    tie.close
    (tie.spec
    bounds-n-0
    fine-requires
    returns-then-not-fine
    bounds-n-1
    fine-requires-2
    returns-then-not-fine-2
    bounds-n-2
    fine-requires-3
    returns-then-not-fine-3
    bounds-n-3
    abs-requires
    fine-requires-4
    returns-then-not-fine-4
    seven_in-requires
    all_levels-requires
    returns)
