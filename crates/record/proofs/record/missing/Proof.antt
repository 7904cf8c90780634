-- `record::record::missing` meets its contract: its DC is `BlockPredictors::outside`'s. Assumes nothing.
use mathlib.Core.Path.{◌≡◌, ap}
use mir.Syntax.{w32}
use mir.Val.{of_z, to_z}
use borrow.Author.Rules.{rules}
use Rattle.prediction.specs.declared.predictor.BlockPredictors.{BlockPredictors}
use Rattle.record.proofs.record.missing.Statement.{statement}
use Rattle.record.proofs.record.missing.Tie as tie

outside-outside-requires : tie.Need-outside-outside-requires
outside-outside-requires c κs = search rules

returns : tie.Need-returns
returns c =
    let o = c.outside-outside in
    let g = c.struct_told-1.given in
    let e : to_z w32 (of_z w32 o.result.fa_dc) ≡ o.result.fa_dc = search rules in
    rw (e, ap (λ (p : BlockPredictors). p.fa_dc) o.ensures)

pub missing_spec : {M : Type 1} → statement M
missing_spec = tie.close (tie.spec outside-outside-requires returns)
