-- What a reading of six blocks tells of its sentence: 64 places each, which may be handed in. Assumes nothing.
use mathlib.Core.Bool.{Bool, cond, true}
use mathlib.Core.List.{List, []}
use mathlib.Core.Path.{◌≡◌, ap, refl, subst⁻¹, sym, ◌∙◌}
use Prim.Native.Nat.{ℕ, ◌+◌, ◌<◌, ◌≤◌}
use native.Mathlib.Omega.{arith}
use lib.IntN.{ℤ}
use lib.ListN.{get_or, length}
use Rattle.bits.proofs.CursorLaws.{in_data_yes}
use Rattle.bits.specs.Bits.{Bits, bits_from}
use Rattle.bits.specs.Cursor.{in_data}
use Rattle.bits.specs.declared.cursor.Cursor.{Cursor}
use Rattle.coefficients.specs.Level.{places_fine}
use Rattle.numbers.proofs.Parts.{ok-parts}
use Rattle.sentences.proofs.EachLaws.{each_holds}
use Rattle.sentences.proofs.Sentences.{macroblock_sentences}
use Rattle.fields.specs.Answer.{after}
use Rattle.sentences.specs.Macroblock.{GoodBlock, GoodMacroblock, Parts, macroblock_bits, places_of_pattern}
use Rattle.sentences.specs.MacroblockReader.{read_macroblock}
use Rattle.fields.specs.Reader.{Res, no, ok}
use Rattle.fields.specs.declared.error.TextureParseError.{TextureParseError}
use Rattle.fields.specs.declared.error.TextureParseError.TheVariants.{OutOfRange}
use Rattle.block_reader.proofs.PlaceLaws.{good-places as in_range}
use Rattle.events.specs.declared.spelling.Spellings.{Spellings}
use Rattle.sentences.proofs.CountLaws.{counts_in}
use Rattle.block_reader.specs.Rows.{blocks_answer, blocks_told, row_of, rows_after, rows_of, rows_told}
use Rattle.block.proofs.AnswerLaws.{good-places}
use Rattle.std.specs.Prelude.{Err, Ok, Result}

pub record SixRead (d : List ℕ) (at : ℕ) (pattern : List Bool) (dc_coded rev : Bool) (rows : List (List ℤ)) (next : Cursor) (n : Spellings) : Type 0 where
  pub parts : List Parts
  pub rest : Bits
  pub read : read_macroblock dc_coded rev pattern (bits_from d at) ≡ ok parts rest
  pub place : next ≡ after d rest
  pub rows_are : rows ≡ rows_of dc_coded pattern parts
  pub counts_are : n ≡ counts_in parts
  pub fine : (i : ℕ) → i < 6 → places_fine (get_or rows i []) ≡ true
  pub long : (i : ℕ) → i < 6 → length (get_or rows i []) ≡ 64
  pub onward : at ≤ next.bit_pos

module _ (d : List ℕ) (at : ℕ) (pattern : List Bool) (dc_coded rev : Bool) (h : in_data (length d) at ≡ true) (r : Result (Cursor × Spellings) TextureParseError) (q : r ≡ blocks_answer d at pattern dc_coded rev) where
  answered : r ≡ blocks_told d (read_macroblock dc_coded rev pattern (bits_from d at))
  unfolding blocks_answer
  answered = q ∙ ap (λ (t : Bool). cond t (blocks_told d (read_macroblock dc_coded rev pattern (bits_from d at))) (Err OutOfRange)) h

  pub six_refused : {e : TextureParseError} → r ≡ Err e → read_macroblock dc_coded rev pattern (bits_from d at) ≡ no e
  six_refused {e} f = go (read_macroblock dc_coded rev pattern (bits_from d at)) (sym f ∙ answered)
    where
      go : (y : Res (List Parts)) → Err e ≡ blocks_told d y → y ≡ no e
      go (ok ps s) g = absurd (let z : ◌≡◌ {A = ℕ} 0 1 = cc in omega arith)
      go (no n) g = let z : n ≡ e = cc in ap no z

  good-rows : (s : List Parts) → GoodMacroblock dc_coded rev pattern s → (i : ℕ) → i < 6 → places_fine (get_or (rows_of dc_coded pattern s) i []) ≡ true
  good-rows s g i l =
      each_holds (GoodBlock dc_coded rev) (λ (xs : List ℤ). places_fine xs ≡ true) (row_of dc_coded) (λ x p k. good-places rev dc_coded x p k) (places_of_pattern pattern) s g [] i l

  long-rows : (s : List Parts) → GoodMacroblock dc_coded rev pattern s → (i : ℕ) → i < 6 → length (get_or (rows_of dc_coded pattern s) i []) ≡ 64
  long-rows s g i l =
      each_holds (GoodBlock dc_coded rev) (λ (xs : List ℤ). length xs ≡ 64) (row_of dc_coded) (λ x p k. (in_range rev dc_coded x p k).long) (places_of_pattern pattern) s g [] i l

  pub six_read : (rows old : List (List ℤ)) {next : Cursor} {n : Spellings} → rows ≡ rows_after d at pattern dc_coded rev old → r ≡ Ok (next, n) → SixRead d at pattern dc_coded rev rows next n
  unfolding rows_after
  six_read rows old {next} {n} k f = go (read_macroblock dc_coded rev pattern (bits_from d at)) refl (sym f ∙ answered) (k ∙ ap (λ (t : Bool). cond t (rows_told dc_coded pattern (read_macroblock dc_coded rev pattern (bits_from d at)) old) old) h)
    where
      go : (y : Res (List Parts)) → read_macroblock dc_coded rev pattern (bits_from d at) ≡ y → Ok (next, n) ≡ blocks_told d y → rows ≡ rows_told dc_coded pattern y old
          → SixRead d at pattern dc_coded rev rows next n
      go (no w) e g m = absurd (let z : ◌≡◌ {A = ℕ} 0 1 = cc in omega arith)
      go (ok ps s) e g m =
          let sen = macroblock_sentences dc_coded rev pattern in
          let q = ok-parts g in
          let p = q.0 in
          let c = q.1 in
          let l = (in_data_yes (length d) at h).1 in
          let on : next.bit_pos ≡ at + length (macroblock_bits pattern ps) = ap (λ (c : Cursor). c.bit_pos) (p ∙ sen.position d at l ps s e) in
          record {
            parts = ps;
            rest = s;
            read = e;
            place = p;
            rows_are = m;
            counts_are = c;
            fine = λ i b. subst⁻¹ (λ (xs : List (List ℤ)). places_fine (get_or xs i []) ≡ true) m (good-rows ps (sen.begins (bits_from d at) ps s e).0 i b);
            long = λ i b. subst⁻¹ (λ (xs : List (List ℤ)). length (get_or xs i []) ≡ 64) m (long-rows ps (sen.begins (bits_from d at) ps s e).0 i b);
            onward = omega arith;
          }
