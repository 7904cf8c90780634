-- A macroblock's reading is the block's taken six times, and so are its values and its counts. Assumes nothing.
use mathlib.Core.Bool.{Bool}
use mathlib.Core.List.{List, [], ◌∷◌}
use Rattle.std.specs.Prelude.{None}
use mathlib.Core.Path.{◌≡◌, ap, refl, sym, ◌∙◌}
use Prim.Native.Nat.{ℕ, suc, zero, ◌*◌, ◌<◌, ◌≤◌}
use native.Mathlib.Omega.{arith}
use lib.IntN.{ℤ}
use lib.ListN.{get_or, length}
use Rattle.bits.specs.Bits.{bits_from}
use Rattle.prediction.specs.declared.predictor.BlockPredictors.{BlockPredictors}
use Rattle.numbers.proofs.Fill.{get_or-build}
use Rattle.events.proofs.SpellingLaws.{counts_together, none_last}
use Rattle.events.specs.Spellings.{spellings_of, together}
use Rattle.events.specs.declared.spelling.Spellings.{Spellings}
use Rattle.sentences.proofs.CountLaws.{counts_in, counts_of}
use Rattle.sentences.proofs.Sentences.{block_sentences}
use Rattle.fields.specs.Answer.{after}
use Rattle.sentences.specs.ComposeReader.{read_each}
use Rattle.sentences.specs.Macroblock.{Parts, Place, events_in, events_of, places_of_pattern}
use Rattle.sentences.specs.MacroblockReader.{read_block, read_macroblock}
use Rattle.fields.specs.Reader.{Res, bind, no, ok}
use Rattle.block_reader.proofs.RowLaws.{rest_on}
use Rattle.block.specs.Decoded.{values_in}
use Rattle.block_reader.specs.Reading.{qfs_of}
use Rattle.codes.specs.Component.{component_at}
use Rattle.block_reader.specs.Rows.{rows_of}
use Rattle.assembly.specs.Values.{levels_of, values_of}
use Rattle.assembly.specs.declared.context.MacroblockTextureContext.{MacroblockTextureContext}
use Rattle.macroblock.specs.Answer.{values_alone}
use Rattle.headers.specs.Fields.{pattern_by}
use Rattle.macroblock.specs.InTurn.{in_turn}
use Rattle.macroblock.specs.Six.{block_at, values_of_six}
use Rattle.headers.specs.declared.header.MacroblockHeader.{MacroblockHeader}

module _ (d : List ℕ) (dc_coded rev : Bool) where
  each_in_turn : (ss : List Place) (at : ℕ) → at ≤ 8 * length d → in_turn d dc_coded rev at ss ≡ read_each (read_block dc_coded rev) ss (bits_from d at)
  unfolding in_turn
  each_in_turn [] at l = refl
  each_in_turn (s ∷ ss) at l = go (λ b k. each_in_turn ss b k) (read_block dc_coded rev s (bits_from d at)) refl
    where
      go : ((b : ℕ) → b ≤ 8 * length d → in_turn d dc_coded rev b ss ≡ read_each (read_block dc_coded rev) ss (bits_from d b))
          → (y : Res Parts) → read_block dc_coded rev s (bits_from d at) ≡ y
          → bind y (λ a r. bind (in_turn d dc_coded rev (after d r).bit_pos ss) (λ xs r. ok (a ∷ xs) r))
          ≡ bind y (λ a r. bind (read_each (read_block dc_coded rev) ss r) (λ xs r. ok (a ∷ xs) r))
      go h (no e) q = refl
      go h (ok a r) q =
          let o = rest_on (block_sentences dc_coded rev s) d at l a r q in
          ap (λ (m : Res (List Parts)). bind m (λ xs r. ok (a ∷ xs) r)) (h (after d r).bit_pos o.inside ∙ ap (read_each (read_block dc_coded rev) ss) o.from)

  pub six_times : (pattern : List Bool) (at : ℕ) → at ≤ 8 * length d → read_macroblock dc_coded rev pattern (bits_from d at) ≡ in_turn d dc_coded rev at (places_of_pattern pattern)
  six_times pattern at l = sym (each_in_turn (places_of_pattern pattern) at l)

-- the values of each block are those that the block's reading gives
pub six_values : (d : List ℕ) (h : MacroblockHeader) (dc_coded : Bool) (x : MacroblockTextureContext) (p : BlockPredictors) (w : List (List ℕ)) (a b c e f g : Parts) (i : ℕ) → i < 6
    → let s = a ∷ b ∷ c ∷ e ∷ f ∷ g ∷ [] in block_at (values_alone h dc_coded x p w s) i ≡ values_in d (component_at i) dc_coded x p w (get_or s i (None, None))
unfolding values_of_six
six_values d h dc_coded x p w a b c e f g i l =
    get_or-build 6 _ i [] l ∙ ap (λ (qfs : List ℤ). values_of (component_at i) x w (levels_of (component_at i) x p qfs)) (row i l)
  where
    row : (i : ℕ) → i < 6 → get_or (rows_of dc_coded (pattern_by h) (a ∷ b ∷ c ∷ e ∷ f ∷ g ∷ [])) i [] ≡ qfs_of (component_at i) dc_coded (get_or (a ∷ b ∷ c ∷ e ∷ f ∷ g ∷ []) i (None, None))
    row zero l = refl
    row (suc zero) l = refl
    row (suc (suc zero)) l = refl
    row (suc (suc (suc zero))) l = refl
    row (suc (suc (suc (suc zero)))) l = refl
    row (suc (suc (suc (suc (suc zero))))) l = refl
    row (suc (suc (suc (suc (suc (suc i)))))) l = absurd (omega arith)

-- the counts are those of the six blocks' readings together
pub six_counts : (a b c e f g : Parts)
    → counts_in (a ∷ b ∷ c ∷ e ∷ f ∷ g ∷ []) ≡ together (counts_of a) (together (counts_of b) (together (counts_of c) (together (counts_of e) (together (counts_of f) (counts_of g)))))
unfolding spellings_of
six_counts a b c e f g =
    more a (b ∷ c ∷ e ∷ f ∷ g ∷ []) _
    (more b (c ∷ e ∷ f ∷ g ∷ []) _ (more c (e ∷ f ∷ g ∷ []) _ (more e (f ∷ g ∷ []) _ (more f (g ∷ []) _ (more g [] _ refl ∙ none_last (counts_of g))))))
  where
    more : (p : Parts) (ps : List Parts) (n : Spellings) → counts_in ps ≡ n → counts_in (p ∷ ps) ≡ together (counts_of p) n
    more p ps n h = counts_together (events_of p.1) (events_in ps) ∙ ap (together (counts_of p)) h
