-- Demand 3 follows for any grammar and any call that answers what its reader made of the bits and writes the samples of the sentence's values. Assumes nothing.
use mathlib.Core.Bool.{Bool, true}
use mathlib.Core.List.{List}
use mathlib.Core.Path.{◌≡◌, ap, refl, sym, ◌∙◌}
use Prim.Native.Nat.{ℕ, ◌*◌, ◌+◌, ◌<◌, ◌≤◌}
use lib.IntN.{pos, ℤ}
use lib.ListN.{drop, get_or, length}
use Rattle.bits.specs.Bits.{Bits, bits_from}
use Rattle.bits.specs.Cursor.{cursor_at}
use Rattle.idct.proofs.Refusals.{taken-near}
use Rattle.idct.specs.Limits.{values_fine}
use Rattle.numbers.proofs.Fill.{cell-block}
use Rattle.numbers.specs.Grid.{cell}
use Rattle.ranges.specs.Range.{depth_fine}
use Rattle.samples.proofs.LayoutLaws.{rest-kept, sample_at}
use Rattle.samples.specs.Samples.{place_of, samples_after}
use Rattle.sentences.proofs.CutSentences.{macroblock_cut_sentence}
use Rattle.sentences.proofs.Sentences.{macroblock_sentences}
use Rattle.fields.specs.Answer.{after}
use Rattle.sentences.specs.Compose.{Begins}
use Rattle.sentences.specs.Macroblock.{GoodMacroblock, Parts, macroblock_bits}
use Rattle.sentences.specs.MacroblockReader.{read_macroblock}
use Rattle.sentences.specs.Sentences.{Sentences}
use Rattle.fields.specs.Reader.{Res, no, ok}
use Rattle.fields.specs.Stopped.{Stops}
use Rattle.fields.specs.declared.error.TextureParseError.{TextureParseError}
use Rattle.assembly.specs.declared.context.MacroblockTextureContext.{MacroblockTextureContext}
use Rattle.macroblock.proofs.SixLaws.{samples_at}
use Rattle.macroblock.specs.Demand.{BeginsAt, BreaksOffAt, Demand3, Sample}
use Rattle.macroblock.specs.Six.{block_at, samples_of_six}

-- a call that reads sentences of a grammar with `read`
module _ {S : Type 0} (read : Bits → Res S) (d : List ℕ) (at : ℕ) where
  abbrev read_by : Res S
  read_by = read (bits_from d at)

  -- what is asked of it
  pub record Call (x : MacroblockTextureContext) (values : S → List (List (List ℤ))) (Accepted : Type 0) (Told : ℕ → S → Type 0) (before out : List ℤ) : Type 0 where
    pub accepts : (s : S) (r : Bits) → read_by ≡ ok s r → Accepted
    pub refuses : (e : TextureParseError) → read_by ≡ no e → Accepted → ⊥
    pub tells : (s : S) (r : Bits) → read_by ≡ ok s r → (n : ℕ) → after d r ≡ cursor_at (at + n) → Told n s
    pub writes : (s : S) (r : Bits) → read_by ≡ ok s r → out ≡ samples_after (samples_of_six x (values s)) before

  module _ (bits : S → Bits) (Good : S → Type 0) (h : Sentences read bits Good) where
    -- the reader accepts what begins with a sentence
    pub read_sentence : (s : S) → (b : Begins bits Good (bits_from d at) s) → read_by ≡ ok s b.1.0
    read_sentence s b = ap read b.1.1 ∙ h.own s b.1.0 b.0

    module _ (x : MacroblockTextureContext) (values : S → List (List (List ℤ))) (Accepted : Type 0) (Told : ℕ → S → Type 0) (before out : List ℤ)
        (inside : at ≤ 8 * length d) (depth : depth_fine x.bits_per_pixel ≡ true)
        (fine : (s : S) (i : ℕ) → i < 6 → values_fine x.bits_per_pixel (block_at (values s) i) ≡ true) (room : 384 ≤ length before)
        (c : Call x values Accepted Told before out) where
      begun : (y : Res S) → read_by ≡ y → Accepted → (s : S) × Begins bits Good (bits_from d at) s
      begun (ok s r) e a = let b = h.begins (bits_from d at) s r e in (s, (b.0, (r, b.1)))
      begun (no e) f a = absurd (c.refuses e f a)

      sample : (s : S) → Begins bits Good (bits_from d at) s → (i y u : ℕ) → i < 6 → y < 8 → u < 8 → Sample x (block_at (values s) i) out i y u
      sample s b i y u li ly lu = record {
        limited = ap (λ (o : List ℤ). get_or o (place_of i y u) (pos 0)) (c.writes s b.1.0 (read_sentence s b))
            ∙ sample_at (samples_of_six x (values s)) before i y u li ly lu room
            ∙ ap (λ (f : List (List ℤ)). cell f y u) (samples_at x (values s) i li)
            ∙ cell-block _ y u ly lu;
        near = taken-near x.bits_per_pixel (block_at (values s) i) depth (fine s i li) x.idct_rounding y u ly lu;
      }

      pub demand : Demand3 bits Good d at x values Accepted Told before out
      demand = record {
        exactly = (begun read_by refl, λ b. c.accepts b.0 b.1.1.0 (read_sentence b.0 b.1));
        never_two = λ s t b g. (h.alone s t b.1.0 g.1.0 b.0 g.0 (sym b.1.1 ∙ g.1.1)).0;
        long = λ s b. c.tells s b.1.0 (read_sentence s b) _ (h.position d at inside s b.1.0 (read_sentence s b));
        samples = sample;
        rest = λ s b. ap (drop 384) (c.writes s b.1.0 (read_sentence s b)) ∙ rest-kept (samples_of_six x (values s)) before;
      }

-- ---- with the pattern of a header that is handed in

module _ (d : List ℕ) (at : ℕ) (dc_coded rev : Bool) (pattern : List Bool) where
  pub read_of : (s : List Parts) → (b : BeginsAt d at dc_coded rev pattern s) → read_macroblock dc_coded rev pattern (bits_from d at) ≡ ok s b.1.0
  read_of s b = read_sentence (read_macroblock dc_coded rev pattern) d at (macroblock_bits pattern) (GoodMacroblock dc_coded rev pattern) (macroblock_sentences dc_coded rev pattern) s b

  -- the reader is stopped where a sentence breaks off
  pub stopped_of : (s : List Parts) → BreaksOffAt d at dc_coded rev pattern s → Stops (read_macroblock dc_coded rev pattern (bits_from d at))
  stopped_of s b = macroblock_cut_sentence dc_coded rev pattern (bits_from d at) s b
