-- `needed::needed::put_none` meets its contract: seven zeros. Assumes nothing.
use mathlib.Core.Path.{◌≡◌, ◌∙◌}
use lib.IntN.{pos}
use lib.ListN.{replicate}
use mir.Syntax.{w32}
use mir.Val.{of_z, to_z}
use borrow.Author.Rules.{rules}
use Rattle.coefficients.specs.Needed.{numbers_of}
use Rattle.needed.proofs.needed.put_none.Statement.{statement}
use Rattle.needed.proofs.needed.put_none.Tie as tie

-- what the code reads of the three DCs
module _ (s : tie.Start) where
  reads_a : to_z w32 (of_z w32 s.args.a) ≡ s.args.a
  reads_a = let g = s.well_formed in search rules

  reads_b : to_z w32 (of_z w32 s.args.b) ≡ s.args.b
  reads_b = let g = s.well_formed in search rules

  reads_c : to_z w32 (of_z w32 s.args.c) ≡ s.args.c
  reads_c = let g = s.well_formed in search rules

put_numbers-requires : tie.Need-put_numbers-requires
put_numbers-requires c κs = search rules

returns : tie.Need-returns
returns c =
    let s = c.before.before in
    c.put_numbers.ensures ∙ (λ j. numbers_of (reads_a s j) (reads_b s j) (reads_c s j) s.args.p.quantiser_scale (replicate 7 (pos 0)))

pub put_none_spec : {M : Type 1} → statement M
put_none_spec = tie.close (tie.spec put_numbers-requires returns)
