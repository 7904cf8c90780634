-- The events of a macroblock, counted block by block: what is left to count from turn i on, and that a block has at most 64. Assumes nothing.
use mathlib.Core.Bool.{Bool, false, true}
use mathlib.Core.List.{List, ◌∷◌}
use Rattle.std.specs.Prelude.{None, Some}
use mathlib.Core.Path.{◌≡◌, ap, refl, sym, ◌∙◌}
use Prim.Native.Nat.{ℕ, suc, ◌+◌, ◌<◌, ◌≤◌}
use native.Mathlib.Numerals.{add-one}
use native.Mathlib.Omega.{arith}
use lib.ListN.{drop, get_or, length}
use lib.Seq.{drop-cons}
use Rattle.bits.specs.Bits.{Bits}
use Rattle.codes.specs.declared.tcoef_tables.TcoefTable.TheVariants.{Intra}
use Rattle.events.proofs.SpellingLaws.{counts_all, counts_together, none_first, none_last, together_assoc}
use Rattle.events.specs.Spellings.{no_spellings, spellings_of, together, total_of}
use Rattle.events.specs.declared.spelling.Spellings.{Spellings}
use Rattle.fields.specs.Reader.{Res, bind, mapped, no, ok}
use Rattle.fields.specs.declared.error.TextureParseError.{TextureParseError}
use Rattle.sentences.proofs.EachLaws.{nothing}
use Rattle.sentences.specs.ComposeReader.{read_each}
use Rattle.sentences.specs.Macroblock.{GoodBlock, Parts, Place, events_in, events_of}
use Rattle.sentences.specs.MacroblockReader.{read_block}
use Rattle.texture.proofs.ListLaws.{lands_few}
use Rattle.texture.specs.Events.{first_place}

-- of one block, and of all
abbrev pub counts_of : Parts → Spellings
counts_of p = spellings_of (events_of p.1)

abbrev pub counts_in : List Parts → Spellings
counts_in ps = spellings_of (events_in ps)

-- a block more: its counts and those of the blocks after it
pub counts_more : (n : Spellings) (p : Parts) (ps : List Parts) → together n (counts_in (p ∷ ps)) ≡ together (together n (counts_of p)) (counts_in ps)
counts_more n p ps = ap (together n) (counts_together (events_of p.1) (events_in ps)) ∙ sym (together_assoc n (counts_of p) (counts_in ps))

module _ (dc_coded rev : Bool) (ss : List Place) where
  -- what is left to answer after i blocks that have the counts n
  pub counted_from : ℕ → Spellings → Bits → Res Spellings
  counted_from i n b = mapped (λ ps. together n (counts_in ps)) (read_each (read_block dc_coded rev) (drop i ss) b)

  pub counts_begin : (b : Bits) → mapped counts_in (read_each (read_block dc_coded rev) ss b) ≡ counted_from 0 no_spellings b
  unfolding counted_from
  counts_begin b = go (read_each (read_block dc_coded rev) ss b)
    where
      go : (m : Res (List Parts)) → mapped counts_in m ≡ mapped (λ ps. together no_spellings (counts_in ps)) m
      go (ok ps r) = ap (λ (n : Spellings). ok n r) (sym (none_first (counts_in ps)))
      go (no e) = refl

  -- the turn's block stands first among those left
  abbrev turn_of : Spellings → ℕ → Res Parts → Res Spellings
  turn_of n i m = mapped (λ ps. together n (counts_in ps)) (bind m (λ a r. bind (read_each (read_block dc_coded rev) (drop (suc i) ss) r) (λ xs r. ok (a ∷ xs) r)))

  turn_is : (i : ℕ) (d : Place) (n : Spellings) (b : Bits) → i < length ss → counted_from i n b ≡ turn_of n i (read_block dc_coded rev (get_or ss i d) b)
  unfolding counted_from
  turn_is i d n b h = ap (λ (l : List Place). mapped (λ ps. together n (counts_in ps)) (read_each (read_block dc_coded rev) l b)) (drop-cons ss i d h)

  pub counts_stop : (i : ℕ) (d : Place) (n : Spellings) (b : Bits) {e : TextureParseError} → i < length ss → read_block dc_coded rev (get_or ss i d) b ≡ no e → counted_from i n b ≡ no e
  counts_stop i d n b h q = turn_is i d n b h ∙ ap (turn_of n i) q

  pub counts_go_on : (i : ℕ) (d : Place) (n : Spellings) (b : Bits) {p : Parts} {r : Bits} → i < length ss → read_block dc_coded rev (get_or ss i d) b ≡ ok p r
      → counted_from i n b ≡ counted_from (i + 1) (together n (counts_of p)) r
  unfolding counted_from
  counts_go_on i d n b {p} {r} h q =
      turn_is i d n b h ∙ ap (turn_of n i) q ∙ go (read_each (read_block dc_coded rev) (drop (suc i) ss) r)
      ∙ ap (λ (j : ℕ). mapped (λ ps. together (together n (counts_of p)) (counts_in ps)) (read_each (read_block dc_coded rev) (drop j ss) r)) (sym (add-one i))
    where
      go : (m : Res (List Parts)) → mapped (λ ps. together n (counts_in ps)) (bind m (λ xs r. ok (p ∷ xs) r)) ≡ mapped (λ ps. together (together n (counts_of p)) (counts_in ps)) m
      go (ok ps r) = ap (λ (k : Spellings). ok k r) (counts_more n p ps)
      go (no e) = refl

  pub counts_end : (i : ℕ) (n : Spellings) (b : Bits) → length ss ≤ i → counted_from i n b ≡ ok n b
  unfolding counted_from spellings_of
  counts_end i n b h =
      ap (λ (l : List Place). mapped (λ ps. together n (counts_in ps)) (read_each (read_block dc_coded rev) l b)) (nothing (read_block dc_coded rev) ss i ss h)
      ∙ ap (λ (k : Spellings). ok k b) (none_last n)

-- a good block has at most 64 events
pub block-few : (dc_coded rev : Bool) (s : Place) (p : Parts) → GoodBlock dc_coded rev s p → total_of (counts_of p) ≤ 64
unfolding spellings_of
block-few dc_coded rev (c, coded) (dc, None) g = omega arith
block-few dc_coded rev (c, true) (dc, Some es) g =
    let l = lands_few Intra (first_place dc_coded) es g.1.1 in
    let n = counts_all (events_of (Some es)) in
    omega (arith, l, n)
block-few dc_coded rev (c, false) (dc, Some es) g = absurd g.1
