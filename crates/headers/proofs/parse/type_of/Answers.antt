-- `headers::parse::type_of` meets its contract: rows 4 to 7 have a quantiser change. Assumes nothing.
use Rattle.std.proofs.Common.{Bool, ap, cond, sym}
use Rattle.headers.proofs.PartLaws.{change, no_change}
use Rattle.headers.specs.declared.header.DerivedMbType.TheVariants.{Intra, IntraQ}
use Rattle.headers.proofs.parse.type_of.Goals as goal

pub returns-then-mcbpc-lt4 : goal.returns-then-mcbpc-lt4
returns-then-mcbpc-lt4 c = ap (λ (t : Bool). cond t IntraQ Intra) (sym (no_change c.args.mcbpc c.if-mcbpc-lt4.true))

pub returns-else-mcbpc-lt4 : goal.returns-else-mcbpc-lt4
returns-else-mcbpc-lt4 c = ap (λ (t : Bool). cond t IntraQ Intra) (sym (change c.args.mcbpc c.if-mcbpc-lt4.false c.requires))
