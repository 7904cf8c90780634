-- Demand 3, for a macroblock of which none of 9 to 15 holds, alone or in a picture. Definitions only.
use Rattle.std.specs.Prelude.{Bool, List, ◌↔◌, ◌≡◌, ℕ, ◌<◌, ℤ, pos, drop, get_or, length}
use Rattle.numbers.specs.Limit.{clamp_z}
use Rattle.bits.specs.Bits.{Bits, bits_from}
use Rattle.exact_transform.specs.Exact.{Near, exact}
use Rattle.ranges.specs.Range.{highest}
use Rattle.exact_transform.specs.Transform.{whole}
use Rattle.samples.specs.Samples.{macroblock_samples, place_of}
use Rattle.sentences.specs.Compose.{Begins, BreaksOff}
use Rattle.sentences.specs.Macroblock.{GoodMacroblock, Parts, macroblock_bits}
use Rattle.assembly.specs.declared.context.MacroblockTextureContext.{MacroblockTextureContext}
use Rattle.macroblock.specs.Six.{block_at}

-- the bits from the start to the end of the data begin with a sentence for the pattern
abbrev pub BeginsAt : List ℕ → ℕ → Bool → Bool → List Bool → List Parts → Type 0
BeginsAt d at dc_coded rev pattern s = Begins (macroblock_bits pattern) (GoodMacroblock dc_coded rev pattern) (bits_from d at) s

-- they break off inside the sentence
abbrev pub BreaksOffAt : List ℕ → ℕ → Bool → Bool → List Bool → List Parts → Type 0
BreaksOffAt d at dc_coded rev pattern s = BreaksOff (macroblock_bits pattern) (GoodMacroblock dc_coded rev pattern) (bits_from d at) s

-- the sample of row y, column u of block i: the limited whole number of the block's values, which is near the exact transform of the same values
pub record Sample (x : MacroblockTextureContext) (f : List (List ℤ)) (after : List ℤ) (i y u : ℕ) : Type 0 where
  pub limited : get_or after (place_of i y u) (pos 0) ≡ clamp_z (whole x.idct_rounding f y u) (pos 0) (highest x.bits_per_pixel)
  pub near : Near (whole x.idct_rounding f y u) (exact f y u)

-- of a grammar whose sentences are spelled by `bits` and good by `Good`: `values` gives the six blocks' values of a sentence; `Accepted` says that the call was answered without a number, `Told n s` that it reported n bits, the position n bits on, and what it reports of the sentence s; `before` and `after` are the lent samples
pub record Demand3 {S : Type 0} (bits : S → Bits) (Good : S → Type 0) (d : List ℕ) (at : ℕ) (x : MacroblockTextureContext) (values : S → List (List (List ℤ))) (Accepted : Type 0) (Told : ℕ → S → Type 0) (before after : List ℤ) : Type 0 where
  -- accepted exactly when the bits begin with a sentence
  pub exactly : Accepted ↔ ((s : S) × Begins bits Good (bits_from d at) s)
  -- never with two
  pub never_two : (s t : S) → Begins bits Good (bits_from d at) s → Begins bits Good (bits_from d at) t → s ≡ t
  -- the length reported is the sentence's, and the position moves on by it; what is reported of the sentence is of this one
  pub long : (s : S) → Begins bits Good (bits_from d at) s → Told (length (bits s)) s
  -- each of the 384 samples
  pub samples : (s : S) → Begins bits Good (bits_from d at) s → (i y u : ℕ) → i < 6 → y < 8 → u < 8 → Sample x (block_at (values s) i) after i y u
  -- a longer slice keeps its rest
  pub rest : (s : S) → Begins bits Good (bits_from d at) s → drop macroblock_samples after ≡ drop macroblock_samples before
