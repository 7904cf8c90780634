-- `vaxembro::lent::put_picture` meets its contract: five stores. Assumes nothing.
use mathlib.Core.Bool.{cond}
use mathlib.Core.List.{[], ◌∷◌}
use mathlib.Core.Path.{ap, ◌∙◌}
use Prim.Native.Nat.{ℕ}
use native.Mathlib.Omega.{arith}
use borrow.Author.Rules.{rules}
use lib.ListN.{length-set, set}
use lib.Seq.{sets-eq}
use Rattle.vaxembro.specs.Lent.{state_after}
use Rattle.vaxembro.proofs.lent.put_picture.Statement.{statement}
use Rattle.vaxembro.proofs.lent.put_picture.Tie as tie

bounds-state-0 : tie.Need-bounds-state-0
bounds-state-0 c = search rules

bounds-state-1 : tie.Need-bounds-state-1
bounds-state-1 c = simp length-set (omega arith)

bounds-state-2 : tie.Need-bounds-state-2
bounds-state-2 c = simp length-set (omega arith)

number_of-requires : tie.Need-number_of-requires
number_of-requires c κs = search rules

bounds-state-3 : tie.Need-bounds-state-3
bounds-state-3 c = simp length-set (omega arith)

bounds-state-4 : tie.Need-bounds-state-4
bounds-state-4 c = search rules

shape_of-state : tie.Need-shape_of-state
shape_of-state c = search rules

returns : tie.Need-returns
unfolding state_after
returns c =
    let a = c.args in
    let p = a.p in
    let s = a.state.now in
    ap (λ (n : ℕ). set (set (set (set (set s 0 p.width) 1 p.height) 2 p.bits_per_pixel) 3 n) 4 p.accepted) c.number_of.ensures
    ∙ sets-eq (p.width ∷ p.height ∷ p.bits_per_pixel ∷ cond p.quant_type 1 0 ∷ p.accepted ∷ []) s 0 (omega arith)

pub put_picture_spec : {M : Type 1} → statement M
put_picture_spec =
    tie.close
    (tie.spec
    bounds-state-0
    bounds-state-1
    bounds-state-2
    number_of-requires
    bounds-state-3
    bounds-state-4
    shape_of-state
    returns)
