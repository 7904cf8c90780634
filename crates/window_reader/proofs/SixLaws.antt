-- A block and six blocks that windows settle, in the reader's terms. Assumes nothing.
use mathlib.Core.Bool.{Bool, true, false}
use mathlib.Core.List.{List, []}
use mathlib.Core.Path.{◌≡◌, refl, sym, ap, ap₂, subst, ◌∙◌}
use Prim.Native.Nat.{ℕ, ◌+◌, ◌*◌, ◌≤◌, ◌<◌}
use native.Mathlib.Nat.{le_refl}
use native.Mathlib.Omega.{arith}
use lib.IntN.{ℤ, nat_abs}
use lib.ListN.{get_or, get_or-replicate, length, length-set, replicate, set, take}
use lib.Seq.{get_or-set_other, get_or-set_same, take-set-le}
use mir.Facts.{to_z-of_z}
use mir.Syntax.{w32}
use mir.Val.{of_z, to_z}
use Rattle.numbers.proofs.Words.{fits_mag}
use Rattle.bits.specs.Bits.{bits_from}
use Rattle.bits.specs.Cursor.{cursor_at, in_data}
use Rattle.block_reader.proofs.PlaceLaws.{difference_small}
use Rattle.block_reader.proofs.RowLaws.{blocks_read, place_at}
use Rattle.block_reader.specs.Rows.{RowsSay, blocks_answer, read_row, read_rows, read_spellings, row_of, rows_after}
use Rattle.codes.specs.Component.{component_at}
use Rattle.codes.specs.declared.dc_size.DcComponent.{DcComponent}
use Rattle.codes.specs.declared.dc_size.DcComponent.TheVariants.{Luminance}
use Rattle.codes.specs.declared.tcoef_tables.TcoefTable.TheVariants.{Intra}
use Rattle.sentences.proofs.Reading.{dc_reads}
use Rattle.events.specs.Spellings.{no_spellings, spellings_of, together}
use Rattle.events.specs.declared.spelling.Spellings.{Spellings}
use Rattle.sentences.proofs.CountLaws.{counted_from, counts_begin, counts_end, counts_go_on, counts_of}
use Rattle.sentences.proofs.EachLaws.{each_begins, each_ends, each_goes_on, left_of}
use Rattle.sentences.specs.ComposeReader.{read_opt}
use Rattle.dc_parts.specs.Dc.{Dc}
use Rattle.dc_parts.specs.DcReader.{read_dc}
use Rattle.texture.specs.Events.{Events}
use Rattle.texture.specs.EventsReader.{list}
use Rattle.sentences.specs.Macroblock.{Place, places_of_pattern}
use Rattle.sentences.specs.MacroblockReader.{read_block}
use Rattle.texture.specs.Places.{zeros}
use Rattle.fields.specs.Reader.{Res, bind, mapped, ok}
use Rattle.window_reader.proofs.EndLaws.{end_set, end_zeros, ends_all, ends_more}
use Rattle.window_reader.proofs.PackedLaws.{apart-is, packs_both, packs-none}
use Rattle.window_reader.specs.Ends.{end_of, ends_of}
use Rattle.window_reader.specs.Packed.{Packs, apart}
use Rattle.window_reader.specs.Told.{BlockTold, DcTold, ListTold, SixTold}
use Rattle.window_reader.specs.declared.list.ListAt.{ListAt}
use Rattle.window_reader.specs.declared.six.SixAt.{SixAt}
use Rattle.window_reader.specs.declared.symbol.DcAt.{DcAt}
use Rattle.std.specs.Prelude.{Ok, None, Some}

-- ---- one block

module _ (d : List ℕ) (at : ℕ) (c : DcComponent) (r : DcAt) (t : DcTold d at c r) where
  dc-read : read_dc c (bits_from d at) ≡ ok t.part (bits_from d r.next)
  dc-read = ap (read_dc c) t.bits ∙ (dc_reads c).complete t.part (bits_from d r.next) t.good

  -- its bits are the difference again
  pub difference_back : to_z w32 (of_z w32 r.difference) ≡ r.difference
  difference_back = to_z-of_z {w = w32} (fits_mag 4095 tt r.difference (subst (λ (z : ℤ). nat_abs z ≤ 4095) (sym t.says) (difference_small c t.part t.good)))

  -- what is read after the DC part
  after-dc : (coded : Bool) → read_block true false (c, coded) (bits_from d at)
      ≡ bind (read_opt coded (list false Intra 1) (bits_from d r.next)) (λ l s. ok (Some t.part, l) s)
  after-dc coded =
      ap (λ (x : Res Dc). bind (bind x (λ a s. ok (Some a) s)) (λ a s. bind (read_opt coded (list false Intra 1) s) (λ l s. ok (a, l) s))) dc-read

  pub block-alone : BlockTold d at c false (record { next = r.next; end = 1; spelled = 0 }) (set zeros 0 r.difference)
  unfolding spellings_of
  block-alone =
      record {
        parts = (Some t.part, None);
        read = after-dc false;
        row_is = ap (set zeros 0) t.says;
        packs = packs-none 64;
        inside = t.inside;
        ends = sym (end_zeros r.difference);
      }

  pub block_listed : (one : ListAt) (qfs : List ℤ) → ListTold d r.next one qfs → BlockTold d at c true one (set qfs 0 r.difference)
  block_listed one qfs l =
      record {
        parts = (Some t.part, Some l.events);
        read = after-dc true ∙ ap (λ (x : Res Events). bind (bind x (λ a s. ok (Some a) s)) (λ l s. ok (Some t.part, l) s)) l.read;
        row_is = ap₂ (λ (xs : List ℤ) (z : ℤ). set xs 0 z) l.places_are t.says;
        packs = l.packs;
        inside = l.inside;
        ends = l.ends ∙ sym (end_set qfs r.difference);
      }

-- ---- six blocks, one after the other

-- i rows are read, and those after them are 0
pub record Rows (d : List ℕ) (start : ℕ) (pattern : List Bool) (i at spelled : ℕ) (rows : List (List ℤ)) (ends : List ℕ) : Type 0 where
  pub turn-le : i ≤ 6
  pub rows_long : length rows ≡ 6
  pub ends-long : length ends ≡ 6
  pub inside : at ≤ 8 * length d
  pub beyond : (k : ℕ) → i ≤ k → k < 6 → get_or rows k [] ≡ zeros
  pub same : read_rows true false pattern (bits_from d start) ≡ left_of (read_row true false) (places_of_pattern pattern) i rows (bits_from d at)
  pub are : take i ends ≡ ends_of (take i rows)
  pub counts : Spellings
  pub packs : Packs spelled counts (64 * i)
  pub counted : read_spellings true false pattern (bits_from d start) ≡ counted_from true false (places_of_pattern pattern) i counts (bits_from d at)

pub rows_first : (d : List ℕ) (start : ℕ) (pattern : List Bool) (rows : List (List ℤ)) (ends : List ℕ)
    → start ≤ 8 * length d → rows ≡ replicate 6 zeros → length ends ≡ 6 → Rows d start pattern 0 start 0 rows ends
unfolding read_rows read_spellings
rows_first d start pattern rows ends h q n =
    record {
      turn-le = omega arith;
      rows_long = ap length q;
      ends-long = n;
      inside = h;
      beyond = λ k a b. ap (λ (xs : List (List ℤ)). get_or xs k []) q ∙ get_or-replicate 6 k zeros [] b;
      same = each_begins (read_row true false) (places_of_pattern pattern) rows (bits_from d start);
      are = refl;
      counts = no_spellings;
      packs = packs-none 0;
      counted = counts_begin true false (places_of_pattern pattern) (bits_from d start);
    }

module _ (d : List ℕ) (start : ℕ) (pattern : List Bool) (i at spelled : ℕ) (rows : List (List ℤ)) (ends : List ℕ) (s : Rows d start pattern i at spelled rows ends) where
  pub rows_on : i < 6 → (one : ListAt) (qfs : List ℤ) → BlockTold d at (component_at i) (get_or pattern i false) one qfs
      → Rows d start pattern (i + 1) one.next (spelled + one.spelled) (set rows i qfs) (set ends i one.end)
  rows_on h one qfs t =
      let slot = place_at pattern i (Luminance, false) h in
      let n = s.rows_long in
      let m = s.ends-long in
      let low : i < length rows = omega arith in
      let p = packs_both s.packs t.packs in
      record {
        turn-le = omega arith;
        rows_long = length-set rows i qfs ∙ n;
        ends-long = length-set ends i one.end ∙ m;
        inside = t.inside;
        beyond = λ k a b. get_or-set_other rows i k qfs [] (λ (e : k ≡ i). omega arith) ∙ s.beyond k (omega arith) b;
        same = s.same
            ∙ each_goes_on (read_row true false) (places_of_pattern pattern) i (Luminance, false) rows (bits_from d at) h low
            (ap (λ (x : Place). read_row true false x (bits_from d at)) slot ∙ ap (mapped (row_of true (component_at i, get_or pattern i false))) t.read ∙ ap (λ (xs : List ℤ). ok xs (bits_from d one.next)) (sym t.row_is));
        are = ends_more (set rows i qfs) ends i one.end (omega (arith, length-set rows i qfs)) (omega arith)
            (s.are ∙ ap ends_of (sym (take-set-le i rows i qfs (le_refl i)))) (t.ends ∙ ap end_of (sym (get_or-set_same rows i qfs [] low)));
        counts = together s.counts (counts_of t.parts);
        packs = record { is = p.is; none = p.none; few = omega (arith, p.few) };
        counted = s.counted
            ∙ counts_go_on true false (places_of_pattern pattern) i (Luminance, false) s.counts (bits_from d at) h (ap (λ (x : Place). read_block true false x (bits_from d at)) slot ∙ t.read);
      }

  pub rows_last : 6 ≤ i → SixTold d start pattern (record { next = at; spelled = spelled }) rows ends
  rows_last h =
      let n = s.rows_long in
      let m = s.ends-long in
      let p = s.packs in
      let top = s.turn-le in
      let all : Packs spelled s.counts 384 = record { is = p.is; none = p.none; few = omega (arith, p.few, top) } in
      record {
        read = s.same ∙ each_ends (read_row true false) (places_of_pattern pattern) i rows (bits_from d at) h (omega arith);
        counted = s.counted ∙ counts_end true false (places_of_pattern pattern) i s.counts (bits_from d at) h ∙ ap (λ (k : Spellings). ok k (bits_from d at)) (sym (apart-is all));
        inside = s.inside;
        are = ends_all rows ends i (omega arith) (omega arith) s.are;
      }

-- ---- the answer of a macroblock

pub six_answer : (d : List ℕ) (at : ℕ) (pattern : List Bool) (dc_coded rev : Bool) (r : SixAt) (n : Spellings) (rows : List (List ℤ)) (ends : List ℕ)
    → in_data (length d) at ≡ true → dc_coded ≡ true → rev ≡ false → SixTold d at pattern r rows ends → n ≡ apart r.spelled
    → (Ok (cursor_at r.next, n) ≡ blocks_answer d at pattern dc_coded rev) × ((rows ≡ rows_after d at pattern dc_coded rev (replicate 6 zeros)) × (ends ≡ ends_of rows))
six_answer d at pattern dc_coded rev r n rows ends h f g t q =
    let says : RowsSay d (Ok (cursor_at r.next, n)) rows (read_rows dc_coded rev pattern (bits_from d at)) (read_spellings dc_coded rev pattern (bits_from d at)) =
    record {
      is = sym t.read ∙ ap₂ (λ (x y : Bool). read_rows x y pattern (bits_from d at)) (sym f) (sym g);
      counted = ap (λ (k : Spellings). ok k (bits_from d r.next)) q ∙ sym t.counted ∙ ap₂ (λ (x y : Bool). read_spellings x y pattern (bits_from d at)) (sym f) (sym g);
      inside = t.inside;
    } in
    let b = blocks_read d at pattern dc_coded rev h (Ok (cursor_at r.next, n)) rows (replicate 6 zeros) says refl in
    (b.0, (b.1, t.are))
