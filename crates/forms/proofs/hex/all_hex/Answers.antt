-- `forms::hex::all_hex` meets its contract: std's test of a digit, byte after byte. Assumes nothing.
use Rattle.std.proofs.Common.{◌∙◌, rules, tests}
use Rattle.std.proofs.lemmas.Iterator.{YieldsList-from_slice}
use Rattle.std.proofs.lemmas.Iterator.Search.{all_from_yields_List}
use Rattle.std.specs.Char.{is_ascii_hexdigit}
use Rattle.forms.proofs.HexLaws.{hex_all}
use Rattle.forms.specs.Reading.{part}
use Rattle.forms.proofs.hex.all_hex.Goals as goal

pub returns : goal.returns
returns c =
    let w = part c.args.line.now c.args.from c.args.to in
    all_from_yields_List is_ascii_hexdigit _ _ c.all.result c.all.ensures.ran (YieldsList-from_slice w c.iter.ensures.rest) (λ x b q k. search (rules, tests)) ∙ hex_all w
