-- `still_lines::text::number` meets its contract: the fewest digits. Assumes nothing.
use mathlib.Core.List.{List, ◌++◌}
use mathlib.Core.Path.{◌≡◌, ap, ◌∙◌}
use Prim.Native.Nat.{ℕ, ◌+◌, ◌≤◌}
use native.Mathlib.Omega.{arith}
use borrow.Author.Rules.{rules}
use lib.ListN.{length, take}
use Rattle.still_lines.proofs.DecimalLaws.{decimal_is, twenty}
use Rattle.still_lines.specs.Text.{said}
use Rattle.still_lines.proofs.text.number.Statement.{statement}
use Rattle.still_lines.proofs.text.number.Tie as tie

-- at most 20 digits
few : (k : tie.After-digits-2-1) → length (take k.decimal-k.result k.decimal-k.new.out) ≤ 20
few k =
    let d = k.decimal-k in
    let s = k.before.before.before in
    let t = twenty s.args.n d.result d.ensures.1.0 s.ranges.n.fits in
    omega (arith, d.ensures.0.1)

decimal-k-requires : tie.Need-decimal-k-requires
decimal-k-requires c κs = search rules

slice_bounds-digits-end : tie.Need-slice_bounds-digits-end
slice_bounds-digits-end c = search rules

slice_bounds-word-end : tie.Need-slice_bounds-word-end
slice_bounds-word-end c = search rules

word-requires : tie.Need-word-requires
word-requires c κs = let f = few c in let p = c.requires in omega arith

returns : tie.Need-returns
returns c =
    let a = c.args in
    let d = c.decimal-k in (
      c.word.ensures.0 ∙ ap (λ (xs : List ℕ). said a.t ++ xs) (decimal_is a.n d.result _ d.ensures.1.0 d.ensures.1.1.0),
      (let f = few c.before in let e : c.word.result.len ≡ a.t.len + length (take d.result d.new.out) = c.word.ensures.1 in omega arith),
    )

pub number_spec : {M : Type 1} → statement M
number_spec = tie.close (tie.spec decimal-k-requires slice_bounds-digits-end slice_bounds-word-end word-requires returns)
