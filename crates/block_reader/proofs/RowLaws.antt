-- The code's reading of six blocks, row after row, is the reader's. Assumes nothing.
use mathlib.Core.Bool.{Bool, cond, false, true}
use mathlib.Core.List.{List}
use mathlib.Core.Path.{◌≡◌, ap, ap₂, refl, subst, subst⁻¹, sym, ◌∙◌}
use Prim.Native.Nat.{ℕ, suc, zero, ◌*◌, ◌+◌, ◌<◌, ◌≤◌}
use native.Mathlib.Omega.{arith}
use lib.IntN.{ℤ}
use lib.ListN.{drop, get_or, length, length-append}
use lib.Seq.{drop_at}
use Rattle.bits.proofs.BitLaws.{length-bits_from}
use Rattle.bits.specs.Bits.{Bits, bits_from}
use Rattle.bits.specs.Cursor.{cursor_at, in_data}
use Rattle.bits.specs.declared.cursor.Cursor.{Cursor}
use Rattle.codes.specs.declared.dc_size.DcComponent.{DcComponent}
use Rattle.fields.proofs.ChainLaws.{place_is}
use Rattle.events.specs.Spellings.{total_of}
use Rattle.events.specs.declared.spelling.Spellings.{Spellings}
use Rattle.sentences.proofs.CountLaws.{block-few, counts_in, counts_of}
use Rattle.sentences.proofs.EachLaws.{each_mapped}
use Rattle.sentences.proofs.Sentences.{block_sentences}
use Rattle.fields.proofs.StepLaws.{from_on}
use Rattle.fields.specs.Answer.{after}
use Rattle.sentences.specs.Macroblock.{Parts, Place, places_of_pattern}
use Rattle.sentences.specs.MacroblockReader.{read_block, read_macroblock}
use Rattle.fields.specs.Reader.{Res, mapped, no, ok}
use Rattle.sentences.specs.Sentences.{Sentences}
use Rattle.fields.specs.declared.error.TextureParseError.{TextureParseError}
use Rattle.fields.specs.declared.error.TextureParseError.TheVariants.{OutOfRange}
use Rattle.block_reader.proofs.SentenceLaws.{none, sentence}
use Rattle.block_reader.specs.Reading.{parts_at}
use Rattle.codes.specs.Component.{component_at}
use Rattle.block_reader.specs.Rows.{InsideRows, RowsSay, blocks_answer, blocks_told, read_row, read_rows, read_spellings, row_of, rows_after, rows_of, rows_told, said_rows, said_spellings}
use Rattle.block_reader.specs.declared.read.PlacesRead.{PlacesRead}
use Rattle.std.specs.Prelude.{Err, Ok, Result}

-- block i of a pattern
pub place_at : (pattern : List Bool) (i : ℕ) (s : Place) → i < 6 → get_or (places_of_pattern pattern) i s ≡ (component_at i, get_or pattern i false)
place_at pattern zero s h = refl
place_at pattern (suc zero) s h = refl
place_at pattern (suc (suc zero)) s h = refl
place_at pattern (suc (suc (suc zero))) s h = refl
place_at pattern (suc (suc (suc (suc zero)))) s h = refl
place_at pattern (suc (suc (suc (suc (suc zero))))) s h = refl
place_at pattern (suc (suc (suc (suc (suc (suc i)))))) s h = absurd (omega arith)

-- what is left after a sentence begins at the position after it
pub record On (d : List ℕ) (r : Bits) : Type 0 where
  pub from : bits_from d (after d r).bit_pos ≡ r
  pub inside : (after d r).bit_pos ≤ 8 * length d

pub rest_on : {A : Type 0} {read : Bits → Res A} {bits : A → Bits} {Good : A → Type 0} → Sentences read bits Good
    → (d : List ℕ) (at : ℕ) → at ≤ 8 * length d → (a : A) (r : Bits) → read (bits_from d at) ≡ ok a r → On d r
rest_on {A} {read} {bits} {Good} h d at l a r e =
    let s = (h.begins (bits_from d at) a r e).1 in
    let n = ap length s ∙ length-append (bits a) r in
    let k = length-bits_from d at in
    let p : after d r ≡ cursor_at (at + length (bits a)) = h.position d at l a r e in
    record {
      from = ap (λ (y : Cursor). bits_from d y.bit_pos) p ∙ sym (from_on d at (length (bits a))) ∙ ap (drop (length (bits a))) s ∙ drop_at (bits a) r (length (bits a)) refl;
      inside = subst (λ (y : Cursor). y.bit_pos ≤ 8 * length d) (sym p) (omega arith);
    }

-- ---- one row

-- what was read of a block
pub record RowRead (d : List ℕ) (at : ℕ) (s : Place) (dc_coded rev : Bool) (qfs : List ℤ) (next : Cursor) (n : Spellings) : Type 0 where
  pub parts : Parts
  pub block-is : read_block dc_coded rev s (bits_from d at) ≡ ok parts (bits_from d next.bit_pos)
  pub row_is : read_row dc_coded rev s (bits_from d at) ≡ ok qfs (bits_from d next.bit_pos)
  pub counts_are : n ≡ counts_of parts
  pub few : total_of n ≤ 64
  pub inside : next.bit_pos ≤ 8 * length d

module _ (d : List ℕ) (c : Cursor) (l : c.bit_pos ≤ 8 * length d) (m : DcComponent) (coded dc_coded rev : Bool) (one : PlacesRead) (q : one ≡ parts_at d c.bit_pos m coded dc_coded rev) where
  -- refused, as a block and as a row
  pub block_refused : {e : TextureParseError} → one.answer ≡ Err e → read_block dc_coded rev (m, coded) (bits_from d c.bit_pos) ≡ no e
  block_refused f = none d c.bit_pos m coded dc_coded rev one q f

  pub row-refused : {e : TextureParseError} → one.answer ≡ Err e → read_row dc_coded rev (m, coded) (bits_from d c.bit_pos) ≡ no e
  row-refused f = ap (mapped (row_of dc_coded (m, coded))) (block_refused f)

  pub row_read_lem : {next : Cursor} {n : Spellings} → one.answer ≡ Ok (next, n) → RowRead d c.bit_pos (m, coded) dc_coded rev one.qfs next n
  row_read_lem {next} {n} f =
      let s = sentence d c.bit_pos m coded dc_coded rev one q f in
      let o = rest_on (block_sentences dc_coded rev (m, coded)) d c.bit_pos l s.parts s.rest s.read in
      let on : s.rest ≡ bits_from d next.bit_pos = sym (ap (λ (y : Cursor). bits_from d y.bit_pos) s.place ∙ o.from) in
      record {
        parts = s.parts;
        block-is = s.read ∙ ap (λ (r : Bits). ok s.parts r) on;
        row_is = ap (mapped (row_of dc_coded (m, coded))) s.read ∙ ap₂ (λ (xs : List ℤ) (r : Bits). ok xs r) (sym s.qfs-is) on;
        counts_are = s.counts_are;
        few = subst⁻¹ (λ (k : Spellings). total_of k ≤ 64) s.counts_are (block-few dc_coded rev (m, coded) s.parts s.good);
        inside = subst (λ (y : Cursor). y.bit_pos ≤ 8 * length d) (sym s.place) o.inside;
      }

-- ---- six rows

module _ (d : List ℕ) (at : ℕ) (pattern : List Bool) (dc_coded rev : Bool) where
  abbrev read : Res (List Parts)
  read = read_macroblock dc_coded rev pattern (bits_from d at)

  rows-read : read_rows dc_coded rev pattern (bits_from d at) ≡ mapped (rows_of dc_coded pattern) read
  unfolding read_rows
  rows-read = each_mapped (read_block dc_coded rev) (row_of dc_coded) (places_of_pattern pattern) (bits_from d at)

  -- outside the data
  pub blocks_out : (old : List (List ℤ)) → in_data (length d) at ≡ false
      → (Err OutOfRange ≡ blocks_answer d at pattern dc_coded rev) × (old ≡ rows_after d at pattern dc_coded rev old)
  unfolding blocks_answer rows_after
  blocks_out old e = (
    sym (ap (λ (t : Bool). cond t (blocks_told d read) (Err OutOfRange)) e),
    sym (ap (λ (t : Bool). cond t (rows_told dc_coded pattern read old) old) e),
  )

  module _ (h : in_data (length d) at ≡ true) (r : Result (Cursor × Spellings) TextureParseError) (rows old : List (List ℤ))
      (says : RowsSay d r rows (read_rows dc_coded rev pattern (bits_from d at)) (read_spellings dc_coded rev pattern (bits_from d at))) where
    in_answer : blocks_answer d at pattern dc_coded rev ≡ blocks_told d read
    unfolding blocks_answer
    in_answer = ap (λ (t : Bool). cond t (blocks_told d read) (Err OutOfRange)) h

    in_rows : rows_after d at pattern dc_coded rev old ≡ rows_told dc_coded pattern read old
    unfolding rows_after
    in_rows = ap (λ (t : Bool). cond t (rows_told dc_coded pattern read old) old) h

    pub blocks_refused : {e : TextureParseError} → r ≡ Err e
        → (Err e ≡ blocks_answer d at pattern dc_coded rev) × (old ≡ rows_after d at pattern dc_coded rev old)
    blocks_refused {e} q =
        let w = go read (sym (ap (λ (x : Result (Cursor × Spellings) TextureParseError). said_rows d x rows) q) ∙ says.is ∙ rows-read) in
        (sym (in_answer ∙ ap (blocks_told d) w), sym (in_rows ∙ ap (λ (y : Res (List Parts)). rows_told dc_coded pattern y old) w))
      where
        go : (y : Res (List Parts)) → no e ≡ mapped (rows_of dc_coded pattern) y → y ≡ no e
        go (ok ps s) q = absurd (let z : ◌≡◌ {A = ℕ} 0 1 = cc in omega arith)
        go (no n) q = let z : n ≡ e = cc in ap no z

    spellings-read : read_spellings dc_coded rev pattern (bits_from d at) ≡ mapped counts_in read
    unfolding read_spellings
    spellings-read = refl

    pub blocks_read : {next : Cursor} {n : Spellings} → r ≡ Ok (next, n)
        → (Ok (next, n) ≡ blocks_answer d at pattern dc_coded rev) × (rows ≡ rows_after d at pattern dc_coded rev old)
    blocks_read {next} {n} q =
        let k : next.bit_pos ≤ 8 * length d = subst (InsideRows d) q says.inside in
        let w = go read (sym (ap (λ (x : Result (Cursor × Spellings) TextureParseError). said_rows d x rows) q) ∙ says.is ∙ rows-read) (sym (ap (said_spellings d) q) ∙ says.counted ∙ spellings-read) in (
          ap (λ (c : Cursor). Ok (c, n)) (place_is d next k) ∙ w.0 ∙ sym in_answer,
          w.1 ∙ sym in_rows,
        )
      where
        go : (y : Res (List Parts)) → ok rows (bits_from d next.bit_pos) ≡ mapped (rows_of dc_coded pattern) y → ok n (bits_from d next.bit_pos) ≡ mapped counts_in y
            → (Ok (after d (bits_from d next.bit_pos), n) ≡ blocks_told d y) × (rows ≡ rows_told dc_coded pattern y old)
        go (ok ps s) q p =
            let a : bits_from d next.bit_pos ≡ s = cc in
            let b : rows ≡ rows_of dc_coded pattern ps = cc in
            let c : n ≡ counts_in ps = cc in
            (ap₂ (λ (z : Bits) (k : Spellings). Ok (after d z, k)) a c, b)
        go (no w) q p = absurd (let z : ◌≡◌ {A = ℕ} 0 1 = cc in omega arith)
