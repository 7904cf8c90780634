-- `needed::needed::put_values` meets its contract: seven numbers of the record, and its quantiser. Assumes nothing.
use mathlib.Core.Path.{◌≡◌, ap, ◌∙◌}
use mir.Syntax.{w32}
use mir.Val.{of_z, to_z}
use borrow.Author.Rules.{rules}
use Rattle.numbers.proofs.Words.{held}
use Rattle.coefficients.specs.Needed.{numbers_of}
use Rattle.record.specs.Record.{quantiser_of}
use Rattle.needed.proofs.NeededLaws.{values-read}
use Rattle.needed.proofs.needed.put_values.Statement.{statement}
use Rattle.needed.proofs.needed.put_values.Tie as tie

-- what the code reads of the three DCs
module _ (s : tie.Start) where
  reads_a : to_z w32 (of_z w32 s.args.a) ≡ s.args.a
  reads_a = let g = s.well_formed in search rules

  reads_b : to_z w32 (of_z w32 s.args.b) ≡ s.args.b
  reads_b = let g = s.well_formed in search rules

  reads_c : to_z w32 (of_z w32 s.args.c) ≡ s.args.c
  reads_c = let g = s.well_formed in search rules

overflow_add-start : tie.Need-overflow_add-start
overflow_add-start c = search rules

seven-values-requires : tie.Need-seven-values-requires
seven-values-requires c κs = search rules

overflow_add-start-2 : tie.Need-overflow_add-start-2
overflow_add-start-2 c = search rules

number-requires : tie.Need-number-requires
number-requires c κs = search rules

quantiser-qp-requires : tie.Need-quantiser-qp-requires
quantiser-qp-requires c κs = search rules

put_numbers-requires : tie.Need-put_numbers-requires
put_numbers-requires c κs = search rules

returns : tie.Need-returns
returns c =
    let q = c.before.before in
    let m = q.before in
    let n = m.before in
    let s = n.before in
    let a = s.args in
    c.put_numbers.ensures
    ∙ (λ j. numbers_of (reads_a s j) (reads_b s j) (reads_c s j) q.quantiser-qp.result n.seven-values.result)
    ∙ values-read a.s.now a.start a.at a.a a.b a.c s.requires.1
    (q.quantiser-qp.ensures ∙ ap quantiser_of (held m.number.result m.number.type_inv ∙ m.number.ensures))
    n.seven-values.ensures

pub put_values_spec : {M : Type 1} → statement M
put_values_spec =
    tie.close
    (tie.spec
    overflow_add-start
    seven-values-requires
    overflow_add-start-2
    number-requires
    quantiser-qp-requires
    put_numbers-requires
    returns)
