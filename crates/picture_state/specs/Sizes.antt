-- How many numbers a record takes in the store, and a picture's store. Definitions only.
use Rattle.std.specs.Prelude.{ℕ, ◌*◌}

-- from one record in the store to the next
abbrev pub slot_length : ℕ
slot_length = 96

-- of a picture w macroblocks wide: two rows of records
abbrev pub store_for : ℕ → ℕ
store_for w = 192 * w
