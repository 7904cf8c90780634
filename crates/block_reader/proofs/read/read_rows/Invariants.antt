-- The loop of `block_reader::read::read_rows`: what is left to read after i blocks. Assumes nothing.
use Rattle.std.proofs.Common.{length, ◌*◌, ◌≡◌, ◌≤◌}
use Rattle.bits.specs.Bits.{bits_from}
use Rattle.events.specs.Spellings.{total_of}
use Rattle.sentences.proofs.CountLaws.{counted_from}
use Rattle.sentences.proofs.EachLaws.{left_of}
use Rattle.sentences.specs.Macroblock.{places_of_pattern}
use Rattle.block_reader.specs.Rows.{read_row, read_rows, read_spellings}
use Rattle.block_reader.proofs.read.read_rows.Given as goal

abbrev pub invariant-loop-i : goal.invariant-loop-i
invariant-loop-i l = record {
  long : length l.rows ≡ 6;
  inside : l.c.bit_pos ≤ 8 * length l.«data»;
  rows_left : read_rows l.dc_coded l.reversible l.pattern (bits_from l.«data» l.fn.start.bit_pos) ≡ left_of (read_row l.dc_coded l.reversible) (places_of_pattern l.pattern) l.i l.rows (bits_from l.«data» l.c.bit_pos);
  counts_left : read_spellings l.dc_coded l.reversible l.pattern (bits_from l.«data» l.fn.start.bit_pos) ≡ counted_from l.dc_coded l.reversible (places_of_pattern l.pattern) l.i l.spellings (bits_from l.«data» l.c.bit_pos);
  few : total_of l.spellings ≤ 64 * l.i;
}
