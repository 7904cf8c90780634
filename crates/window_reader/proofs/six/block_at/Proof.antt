-- `window_reader::six::block_at` meets its contract: a DC part, and the list if the block is coded. Assumes nothing.
use mathlib.Core.Bool.{Bool}
use mathlib.Core.List.{List}
use mathlib.Core.Path.{ap₂, subst₂, sym}
use borrow.Author.Rules.{rules}
use lib.IntN.{ℤ}
use lib.ListN.{set}
use Rattle.window_reader.proofs.SixLaws.{block-alone, block_listed, difference_back}
use Rattle.window_reader.specs.Told.{BlockTold, DcTold}
use Rattle.window_reader.proofs.six.block_at.Statement.{statement}
use Rattle.window_reader.proofs.six.block_at.Tie as tie

-- the DC part that was told
part : (k : tie.Else-dc-eq0) → let a = k.args in DcTold a.«data».now a.at a.component k.dc_at-dc.result
part k = k.dc_at-dc.ensures k.if-dc-eq0.false

dc_at-dc-requires : tie.Need-dc_at-dc-requires
dc_at-dc-requires c κs = search rules

no_list-requires : tie.Need-no_list-requires
no_list-requires c κs = search rules

returns-then-dc-eq0 : tie.Need-returns-then-dc-eq0
returns-then-dc-eq0 c = λ z. absurd (z c.no_list.ensures)

bounds-places-0 : tie.Need-bounds-places-0
bounds-places-0 c = search rules

returns-then-not-coded : tie.Need-returns-then-not-coded
returns-then-not-coded c = λ z.
    let k = c.before.before in
    let s = k.before.before.before.before.before.before in
    let a = s.args in
    let d = a.«data».now in
    let r = k.dc_at-dc.result in
    let t = part k in
    subst₂ (λ (b : Bool) (qfs : List ℤ). BlockTold d a.at a.component b (record { next = r.next; end = 1; spelled = 0 }) qfs)
    (sym c.if-not-coded.true) (sym (ap₂ (λ (xs : List ℤ) (x : ℤ). set xs 0 x) s.requires.2 (difference_back d a.at a.component r t)))
    (block-alone d a.at a.component r t)

list_at-one-requires : tie.Need-list_at-one-requires
list_at-one-requires c κs =
    let k = c.before.before.before in
    let s = k.before.before.before.before.before.before in
    (((part k).inside, s.requires.0.1), s.requires.1, s.requires.2)

returns-then-one-eq0 : tie.Need-returns-then-one-eq0
returns-then-one-eq0 c = λ z. absurd (z c.if-one-eq0.true)

bounds-places-0-2 : tie.Need-bounds-places-0-2
bounds-places-0-2 c = search rules

returns : tie.Need-returns
returns c = λ z.
    let k = c.before.before.before.before.before.before in
    let s = k.before.before.before.before.before.before in
    let a = s.args in
    let d = a.«data».now in
    let r = k.dc_at-dc.result in
    let t = part k in
    let one = c.list_at-one in
    subst₂ (λ (b : Bool) (x : ℤ). BlockTold d a.at a.component b one.result (set one.new.places 0 x))
    (sym c.if-not-coded.false) (sym (difference_back d a.at a.component r t))
    (block_listed d a.at a.component r t one.result one.new.places (one.ensures z))

pub block_at_spec : {M : Type 1} → statement M
block_at_spec =
    tie.close (tie.spec dc_at-dc-requires no_list-requires returns-then-dc-eq0 bounds-places-0 returns-then-not-coded list_at-one-requires returns-then-one-eq0 bounds-places-0-2 returns)
