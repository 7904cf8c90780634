-- The position of a reader after bits are read or skipped: past them, or where it was on a refusal. Definitions only.
use Rattle.std.specs.Prelude.{ℕ, Err, Ok, Result}
use Rattle.bits.specs.declared.cursor.Cursor.{Cursor}
use Rattle.bits.specs.declared.error.BitReaderError.{BitReaderError}

-- after a read that began at a position
abbrev pub position_after : Result (ℕ × Cursor) BitReaderError → ℕ → ℕ
position_after (Ok (v, c)) at = c.bit_pos
position_after (Err e) at = at

-- after a skip that began at a position
abbrev pub moved_to : Result Cursor BitReaderError → ℕ → ℕ
moved_to (Ok c) at = c.bit_pos
moved_to (Err e) at = at
