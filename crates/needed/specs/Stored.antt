-- Inside the crate: the tests of a stored record by the numbers that the six blocks take of it. Definitions only.
use Rattle.std.specs.Prelude.{Bool, true, ◌&&◌, List, ℕ, ◌+◌, ◌*◌, ℤ, pos, get_or, Option, None, Some}
use Rattle.numbers.specs.Every.{every}
use Rattle.ranges.specs.Range.{dc_fine, level_fine, quantiser_fine}
use Rattle.record.specs.Record.{quantiser_of, seven_from}

-- block b's DC, and its row (from 1) or its column (from 8)
unfoldable pub block_fine : List ℤ → ℕ → ℕ → Bool
block_fine r b from = dc_fine (get_or r (15 * b) (pos 0)) && every level_fine (seven_from r (15 * b + from))

abbrev pub scale_fine : List ℤ → Bool
scale_fine r = quantiser_fine (quantiser_of (get_or r 90 (pos 0)))

-- of the record on the left blocks 1, 3, 4 and 5, with their columns
unfoldable pub left_fine : List ℤ → Bool
left_fine r = block_fine r 1 8 && block_fine r 3 8 && block_fine r 4 8 && block_fine r 5 8 && scale_fine r

-- of the record above blocks 2, 3, 4 and 5, with their rows
unfoldable pub above_fine : List ℤ → Bool
above_fine r = block_fine r 2 1 && block_fine r 3 1 && block_fine r 4 1 && block_fine r 5 1 && scale_fine r

-- of the record above on the left the DCs of blocks 3, 4 and 5
unfoldable pub above_left_fine : List ℤ → Bool
above_left_fine r = dc_fine (get_or r 45 (pos 0)) && dc_fine (get_or r 60 (pos 0)) && dc_fine (get_or r 75 (pos 0))

-- a missing record passes
abbrev pub if_there : (List ℤ → Bool) → Option (List ℤ) → Bool
if_there f None = true
if_there f (Some r) = f r
