-- `block_reader::read::read_rows` meets its contract: a loop of six readings. Assumes nothing.
use Rattle.std.proofs.Common.{Ok, Result, ap, arith, false, get_or, sym, ◌*◌, ◌+◌, ◌<◌, ◌≡◌, ◌≤◌, ◌∙◌}
use mathlib.Core.Path.{subst⁻¹}
use lib.ListN.{length, length-set}
use Rattle.bits.specs.declared.cursor.Cursor.{Cursor}
use Rattle.fields.specs.declared.error.TextureParseError.{TextureParseError}
use Rattle.bits.proofs.CursorLaws.{in_data_by}
use Rattle.bits.specs.Bits.{bits_from}
use Rattle.codes.specs.declared.dc_size.DcComponent.{DcComponent}
use Rattle.codes.specs.declared.dc_size.DcComponent.TheVariants.{Luminance}
use Rattle.events.proofs.SpellingLaws.{total_together}
use Rattle.events.specs.Spellings.{together, total_of}
use Rattle.events.specs.declared.spelling.Spellings.{Spellings}
use Rattle.numbers.proofs.Parts.{err_by}
use Rattle.sentences.proofs.CountLaws.{counted_from, counts_begin, counts_end, counts_go_on, counts_stop}
use Rattle.sentences.proofs.EachLaws.{each_begins, each_ends, each_goes_on, each_stops}
use Rattle.sentences.specs.Macroblock.{Place, places_of_pattern}
use Rattle.block_reader.proofs.ReadingLaws.{answer-inside}
use Rattle.block_reader.proofs.RowLaws.{RowRead, block_refused, place_at, row_read_lem, row-refused}
use Rattle.block_reader.specs.Reading.{parts_at}
use Rattle.block_reader.specs.Rows.{RowsSay, read_row, read_rows, read_spellings}
use Rattle.block_reader.proofs.read.read_rows.Goals as goal
use Rattle.block_reader.proofs.read.read_rows.Goals.{After-read_block-answer}

-- the block of this turn
abbrev place : After-read_block-answer → Place
place k = get_or (places_of_pattern k.args.pattern) k.loop-i.i (Luminance, false)

-- what was read of it
read : (k : After-read_block-answer) → k.read_block-answer.result ≡ parts_at k.args.«data».now k.loop-i.c.bit_pos (place k).0 (place k).1 k.args.dc_coded k.args.reversible
read k =
    let l = k.loop-i in
    let a = k.args in
    let d = a.«data».now in
    k.read_block-answer.ensures.value
    ∙ answer-inside d l.c.bit_pos k.component.result (get_or a.pattern l.i false) a.dc_coded a.reversible (in_data_by (length d) l.c.bit_pos k.requires.0.1 l.invariant.inside)
    ∙ ap (λ (m : DcComponent). parts_at d l.c.bit_pos m (get_or a.pattern l.i false) a.dc_coded a.reversible) k.component.ensures
    ∙ sym (ap (λ (x : Place). parts_at d l.c.bit_pos x.0 x.1 a.dc_coded a.reversible) (place_at a.pattern l.i (Luminance, false) (omega arith)))

row : (k : After-read_block-answer) {next : Cursor} {more : Spellings} → k.read_block-answer.result.answer ≡ Ok (next, more)
    → RowRead k.args.«data».now k.loop-i.c.bit_pos (place k) k.args.dc_coded k.args.reversible k.read_block-answer.result.qfs next more
row k q = row_read_lem k.args.«data».now k.loop-i.c k.loop-i.invariant.inside (place k).0 (place k).1 k.args.dc_coded k.args.reversible k.read_block-answer.result (read k) q

pub loop-i-init : goal.loop-i-init
unfolding read_rows read_spellings
loop-i-init c =
    let a = c.args in
    let b = bits_from a.«data».now a.start.bit_pos in
    let ss = places_of_pattern a.pattern in
    let e = c.none-spellings.ensures in
    record {
      long = c.requires.1;
      inside = c.requires.0.0;
      rows_left = each_begins (read_row a.dc_coded a.reversible) ss a.rows.now b;
      counts_left = counts_begin a.dc_coded a.reversible ss b ∙ ap (λ (n : Spellings). counted_from a.dc_coded a.reversible ss 0 n b) (sym e);
      few = subst⁻¹ (λ (n : Spellings). total_of n ≤ 0) e (omega arith);
    }

pub returns-in_err-next : goal.returns-in_err-next
returns-in_err-next c =
    let l = c.loop-i in
    let a = c.args in
    let d = a.«data».now in
    let ss = places_of_pattern a.pattern in
    let x = get_or ss l.i (Luminance, false) in
    let one = c.read_block-answer.result in
    let k = read (goal.at.returns-in_err-next c).After-read_block-answer in
    subst⁻¹ (λ (r : Result (Cursor × Spellings) TextureParseError). RowsSay d r l.rows (read_rows a.dc_coded a.reversible a.pattern (bits_from d a.start.bit_pos)) (read_spellings a.dc_coded a.reversible a.pattern (bits_from d a.start.bit_pos)))
    (err_by c.from_residual.ensures)
    (record {
      is = sym (l.invariant.rows_left ∙ each_stops (read_row a.dc_coded a.reversible) ss l.i (Luminance, false) l.rows (bits_from d l.c.bit_pos) (omega arith)
          (row-refused d l.c l.invariant.inside x.0 x.1 a.dc_coded a.reversible one k c.in_err-next.was));
      counted = sym (l.invariant.counts_left ∙ counts_stop a.dc_coded a.reversible ss l.i (Luminance, false) l.spellings (bits_from d l.c.bit_pos) (omega arith)
          (block_refused d l.c l.invariant.inside x.0 x.1 a.dc_coded a.reversible one k c.in_err-next.was));
      inside = tt;
    })

pub sum-spellings-requires : goal.sum-spellings-requires
sum-spellings-requires c = (omega arith, (row (goal.at.sum-spellings-requires c).After-read_block-answer c.in_ok-next.was).few)

pub loop-i-preserved : goal.loop-i-preserved
loop-i-preserved c =
    let l = c.loop-i in
    let a = c.args in
    let d = a.«data».now in
    let ss = places_of_pattern a.pattern in
    let x = get_or ss l.i (Luminance, false) in
    let t : l.i < 6 = omega arith in
    let next = c.in_ok-next.next in
    let more = c.in_ok-next.more in
    let r = row (goal.at.loop-i-preserved c).After-read_block-answer c.in_ok-next.was in
    record {
      long = length-set l.rows l.i _ ∙ l.invariant.long;
      inside = r.inside;
      rows_left = l.invariant.rows_left ∙ each_goes_on (read_row a.dc_coded a.reversible) ss l.i (Luminance, false) l.rows (bits_from d l.c.bit_pos) t (omega (arith, l.invariant.long)) r.row_is;
      counts_left = l.invariant.counts_left ∙ counts_go_on a.dc_coded a.reversible ss l.i (Luminance, false) l.spellings (bits_from d l.c.bit_pos) t r.block-is
          ∙ ap (λ (n : Spellings). counted_from a.dc_coded a.reversible ss (l.i + 1) n (bits_from d next.bit_pos))
          (ap (together l.spellings) (sym r.counts_are) ∙ sym c.sum-spellings.ensures);
      few = subst⁻¹ (λ (n : Spellings). total_of n ≤ 64 * (l.i + 1)) c.sum-spellings.ensures (let f = r.few in let h = l.invariant.few in omega (arith, total_together l.spellings more, f, h));
    }

pub returns : goal.returns
returns c =
    let l = c.loop-i in
    let a = c.args in
    let d = a.«data».now in
    record {
      is = sym (l.invariant.rows_left ∙ each_ends (read_row a.dc_coded a.reversible) (places_of_pattern a.pattern) l.i l.rows (bits_from d l.c.bit_pos) (omega arith) (omega (arith, l.invariant.long)));
      counted = sym (l.invariant.counts_left ∙ counts_end a.dc_coded a.reversible (places_of_pattern a.pattern) l.i l.spellings (bits_from d l.c.bit_pos) (omega arith));
      inside = l.invariant.inside;
    }
