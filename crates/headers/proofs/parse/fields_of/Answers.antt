-- `headers::parse::fields_of` meets its contract: field by field. Assumes nothing.
use Rattle.std.proofs.Common.{ap, arith, ◌∙◌}
use lib.IntN.{pos}
use mir.Facts.{to_z-of_z}
use mir.Syntax.{w32}
use Rattle.numbers.proofs.Expressions.{Sx, back, fits, loc, ◌⊞◌}
use Rattle.numbers.proofs.Words.{fits_mag}
use Rattle.ranges.specs.Range.{limited_quantiser}
use Rattle.headers.proofs.PartLaws.{fields_are}
use Rattle.headers.proofs.parse.fields_of.Goals as goal
use Rattle.headers.proofs.parse.fields_of.Goals.{Start}

-- the quantiser and what it is changed by
abbrev changed : Start → Sx w32
changed s = loc (pos s.args.quantiser_scale) 31 (let h = s.requires.1 in omega arith) ⊞ loc s.args.p.dquant_delta 2 s.requires.0.2

pub type_of-mb_type-requires : goal.type_of-mb_type-requires
type_of-mb_type-requires c = c.requires.0.0

pub overflow_add-changed : goal.overflow_add-changed
overflow_add-changed c = fits (changed (goal.at.overflow_add-changed c).Start) tt

pub returns : goal.returns
returns c =
    let a = c.args in
    fields_are a.p a.quantiser_scale c.requires.0 c.type_of-mb_type.result c.type_of-mb_type.ensures _ (to_z-of_z {w = w32} (fits_mag 2 tt a.p.dquant_delta c.requires.0.2))
    c.limited.result (c.limited.ensures ∙ ap limited_quantiser (back (changed (goal.at.returns c).Start) tt))
