-- `prediction::predictor::all_levels` meets its contract: each value passes the test. Assumes nothing.
use Rattle.std.proofs.Common.{◌≡◌, ◌∙◌, ap, refl, rules, tests, Bool, ◌&&◌, List, [], ◌∷◌}
use Rattle.std.specs.List.{list_all}
use Rattle.std.proofs.lemmas.Iterator.{YieldsList-from_slice}
use Rattle.std.proofs.lemmas.Iterator.Search.{all_from_yields_List}
use Rattle.numbers.specs.Every.{every}
use Rattle.ranges.specs.Range.{level_fine}
use Rattle.prediction.proofs.predictor.all_levels.Goals as goal

all_every : {A : Type 0} (p : A → Bool) (xs : List A) → list_all p xs ≡ every p xs
all_every p [] = refl
all_every p (x ∷ xs) = ap (λ (b : Bool). p x && b) (all_every p xs)

pub returns : goal.returns
returns c =
    let w = c.args.values in
    all_from_yields_List level_fine _ _ c.all.result c.all.ensures.ran (YieldsList-from_slice w c.iter.ensures.rest) (λ x b q k. search (rules, tests)) ∙ all_every level_fine w
