-- `rounding::tie` meets its contract, rule by rule. Assumes nothing.
use borrow.Author.Rules.{rules}
use Rattle.rounding.proofs.TieRules.{add_fits, rem_fits, away_down, away-up, even_down, even_up}
use Rattle.rounding.proofs.tie.Statement.{statement}
use Rattle.rounding.proofs.tie.Tie as tie

enum_told-1 : tie.Need-enum_told-1
enum_told-1 c = search rules

overflow_add-result : tie.Need-overflow_add-result
overflow_add-result c = add_fits c.args.below c.requires

enum_told-in-ToEven : tie.Need-enum_told-in-ToEven
enum_told-in-ToEven c = search rules

nonzero_rem-below : tie.Need-nonzero_rem-below
nonzero_rem-below c = rem_fits c.args.below c.requires

overflow_add-result-else-below-eq0 : tie.Need-overflow_add-result-else-below-eq0
overflow_add-result-else-below-eq0 c = add_fits c.args.below c.requires

returns-then-below-lt0 : tie.Need-returns-then-below-lt0
returns-then-below-lt0 c = let s = c.before.before in away_down s.args.below s.requires s.args.rounding c.in-AwayFromZero.is c.if-below-lt0.true

returns-else-below-lt0 : tie.Need-returns-else-below-lt0
returns-else-below-lt0 c = let s = c.before.before in away-up s.args.below s.requires s.args.rounding c.in-AwayFromZero.is c.if-below-lt0.false

returns-then-below-eq0 : tie.Need-returns-then-below-eq0
returns-then-below-eq0 c = let s = c.before.before in even_down s.args.below s.requires s.args.rounding c.in-ToEven.is c.if-below-eq0.true

returns-else-below-eq0 : tie.Need-returns-else-below-eq0
returns-else-below-eq0 c = let s = c.before.before in even_up s.args.below s.requires s.args.rounding c.in-ToEven.is c.if-below-eq0.false

pub tie_spec : {M : Type 1} → statement M
tie_spec =
    tie.close
    (tie.spec
    enum_told-1
    overflow_add-result
    enum_told-in-ToEven
    nonzero_rem-below
    overflow_add-result-else-below-eq0
    returns-then-below-lt0
    returns-else-below-lt0
    returns-then-below-eq0
    returns-else-below-eq0)
