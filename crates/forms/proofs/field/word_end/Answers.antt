-- `forms::field::word_end` meets its contract: the first space is where std finds it. Assumes nothing.
use Rattle.std.proofs.Common.{◌≡◌, ◌∙◌, ℕ, ◌+◌, ap, arith, eqb, rules, tests}
use Rattle.std.proofs.lemmas.Iterator.{YieldsList-from_slice}
use Rattle.std.proofs.lemmas.Iterator.Search.{position_from_yields_List}
use Rattle.forms.proofs.WordLaws.{end_found, end_le}
use Rattle.forms.specs.Reading.{part, space_in}
use Rattle.forms.proofs.field.word_end.Goals as goal

pub returns : goal.returns
returns c =
    let a = c.args in
    let w = part a.line.now a.from a.to in
    let found = position_from_yields_List (λ b. eqb b 32) _ _ c.position.result c.position.ensures.ran (YieldsList-from_slice w c.iter.ensures.rest) (λ x b q k. search (rules, tests)) in
    let e : c.unwrap_or.result ≡ space_in w = c.unwrap_or.ensures ∙ end_found w c.position.result found in
    let le = end_le a.line.now a.from a.to c.requires.1 c.requires.0 in
    (ap (λ (n : ℕ). a.from + n) e, (omega arith, omega (arith, le, e)))
