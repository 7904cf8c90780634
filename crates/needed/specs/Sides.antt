-- Inside the crate: what is needed of a block's neighbours, one side at a time. Definitions only.
use Rattle.std.specs.Prelude.{List, ◌≡◌, ℕ, ℤ, pos, get_or, replicate, Option, None, Some}
use Rattle.coefficients.specs.Needed.{numbers_of}
use Rattle.prediction.specs.declared.predictor.BlockPredictors.{BlockPredictors}
use Rattle.record.specs.Record.{quantiser_of, seven_from}

-- three DCs with the quantiser of a record and its seven values at a place; of a missing one the present quantiser and no values
abbrev pub numbers_at : ℕ → Option (List ℤ) → ℕ → ℤ → ℤ → ℤ → List ℤ
numbers_at q None at a b c = numbers_of a b c q (replicate 7 (pos 0))
numbers_at q (Some r) at a b c = numbers_of a b c (quantiser_of (get_or r 90 (pos 0))) (seven_from r at)

-- three numbers are the DCs that a block takes
abbrev pub DcsAre : BlockPredictors → ℤ → ℤ → ℤ → Type 0
DcsAre p a b c = (a ≡ p.fa_dc) × (b ≡ p.fb_dc) × (c ≡ p.fc_dc)
