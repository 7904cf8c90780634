-- A proper beginning of a sentence is refused by 1 or 17: codes, fields, DC parts, events, lists, blocks and macroblocks, plain and reversible. Assumes nothing.
use mathlib.Core.Bool.{Bool, false, true}
use mathlib.Core.List.{List, [], ◌∷◌}
use Rattle.std.specs.Prelude.{None, Some}
use mathlib.Core.Path.{◌≡◌, ap, ◌∙◌}
use Prim.Native.Nat.{ℕ, ◌<◌, ◌^◌, ◌≤◌}
use native.Mathlib.Omega.{arith}
use lib.Dec.{T}
use lib.ListN.{length, length-append}
use Rattle.bits.specs.Bits.{Bits, bin}
use Rattle.codes.specs.Table.{code_bits, prefix_free}
use Rattle.codes.specs.declared.dc_size.DcComponent.{DcComponent}
use Rattle.codes.specs.declared.tcoef_tables.TcoefTable.{TcoefTable}
use Rattle.codes.specs.declared.tcoef_tables.TcoefTable.TheVariants.{Intra}
use Rattle.dc_parts.proofs.DcLaws.{dc-takes}
use Rattle.dc_parts.specs.Dc.{GoodDc, dc_bits}
use Rattle.dc_parts.specs.DcReader.{read_dc}
use Rattle.events.proofs.EitherLaws.{event-takes}
use Rattle.events.specs.Event.{GoodEvent, ◌▸◌, event_bits}
use Rattle.events.specs.EventReader.{event}
use Rattle.fields.proofs.TakeLaws.{Takes, code-takes, field-takes, stops_first, then_stops}
use Rattle.fields.specs.Reader.{Res, code, field}
use Rattle.fields.specs.declared.error.TextureParseError.{TextureParseError}
use Rattle.sentences.proofs.Reading.{dc_reads}
use Rattle.sentences.proofs.ComposeLaws.{opt_reads}
use Rattle.sentences.proofs.Sentences.{block_reads}
use Rattle.sentences.specs.Compose.{GoodEach, GoodOpt, GoodPair, GoodThen, each_bits, opt_bits, pair_bits, then_bits}
use Rattle.sentences.specs.ComposeReader.{CutSentence, Reads, read_each, read_opt, read_pair, read_then}
use Rattle.sentences.specs.Macroblock.{GoodBlock, GoodMacroblock, Place, block_bits, macroblock_bits, places_of_pattern}
use Rattle.sentences.specs.MacroblockReader.{read_block, read_macroblock}
use Rattle.texture.proofs.ListLaws.{list_stops}
use Rattle.texture.specs.Events.{GoodList, events_bits, first_place}
use Rattle.texture.specs.EventsReader.{list}

-- ---- put together

-- no bits are no beginning of a longer string of none
none-longer : (b r : Bits) → 0 < length r → [] ≡ b ▸ r → ⊥
none-longer b r l e = let n = ap length e ∙ length-append b r in omega arith

-- a good sentence is taken
takes : {A : Type 0} {p : Bits → Res A} {f : A → Bits} {P : A → Type 0} → Reads p f P → CutSentence p f P → (a : A) → P a → Takes p (f a) a
takes hp cp a g = record { reads = λ s. hp.complete a s g; stops = λ b r l e. cp b a (g, (r, (l, e))) }

module _ {A B : Type 0} (p : Bits → Res A) (f : A → Bits) (P : A → Type 0) (q : A → Bits → Res B) (g : A → B → Bits) (Q : A → B → Type 0)
    (hp : Reads p f P) (cp : CutSentence p f P) (cq : (a : A) → CutSentence (q a) (g a) (Q a)) where
  pub then_cut : CutSentence (read_then p q) (then_bits f g) (GoodThen P Q)
  then_cut b x (h, (r, (l, e))) =
      then_stops p _ (takes hp cp x.0 h.0) (g x.0 x.1) b r l e
      (λ s k. stops_first (q x.0 s) _ (cq x.0 s x.1 (h.1, (r, (l, k)))))

pub pair_cut : {A B : Type 0} (p : Bits → Res A) (f : A → Bits) (P : A → Type 0) (q : Bits → Res B) (g : B → Bits) (Q : B → Type 0)
    → Reads p f P → CutSentence p f P → CutSentence q g Q → CutSentence (read_pair p q) (pair_bits f g) (GoodPair P Q)
pair_cut p f P q g Q hp cp cq = then_cut p f P (λ _. q) (λ _. g) (λ _. Q) hp cp (λ _. cq)

module _ {A : Type 0} (p : Bits → Res A) (f : A → Bits) (P : A → Type 0) (cp : CutSentence p f P) where
  pub opt_cut : (t : Bool) → CutSentence (read_opt t p) (opt_bits f) (GoodOpt t P)
  opt_cut true b None (h, x) = absurd h
  opt_cut true b (Some a) (h, x) = stops_first (p b) _ (cp b a (h, x))
  opt_cut false b None (h, (r, (l, e))) = absurd (none-longer b r l e)
  opt_cut false b (Some a) (h, x) = absurd h

module _ {S A : Type 0} (p : S → Bits → Res A) (f : S → A → Bits) (P : S → A → Type 0) (hp : (s : S) → Reads (p s) (f s) (P s)) (cp : (s : S) → CutSentence (p s) (f s) (P s)) where
  each_cut : (ss : List S) → CutSentence (read_each p ss) (each_bits f ss) (GoodEach P ss)
  each_cut [] b [] (h, (r, (l, e))) = absurd (none-longer b r l e)
  each_cut [] b (a ∷ xs) (h, x) = absurd h
  each_cut (s ∷ ss) b [] (h, x) = absurd h
  each_cut (s ∷ ss) b (a ∷ xs) (h, (r, (l, e))) =
      then_stops (p s) _ (takes (hp s) (cp s) a h.0) (each_bits f ss xs) b r l e
      (λ t k. stops_first (read_each p ss t) _ (each_cut ss t xs (h.1, (r, (l, k)))))

-- ---- sentences

pub code_cut_sentence : (cs ls : List ℕ) (width rows : ℕ) (err : ℕ → TextureParseError) → T (prefix_free width cs ls) → rows ≤ length cs
    → CutSentence (code cs ls width rows err) (code_bits cs ls) (λ (i : ℕ). i < rows)
code_cut_sentence cs ls width rows err free within b i (h, (r, (l, e))) = (code-takes cs ls width rows err free within i h).stops b r l e

pub field_cut_sentence : (n : ℕ) → CutSentence (field n) (bin n) (λ (v : ℕ). v < 2 ^ n)
field_cut_sentence n b v (h, (r, (l, e))) = (field-takes n v h).stops b r l e

pub dc_cut_sentence : (c : DcComponent) → CutSentence (read_dc c) (dc_bits c) (GoodDc c)
dc_cut_sentence c b x (g, (r, (l, e))) = (dc-takes c x g).stops b r l e

pub event_cut_sentence : (rev : Bool) → CutSentence (event rev) event_bits (GoodEvent rev)
event_cut_sentence rev b x (g, (r, (l, e))) = (event-takes rev x g).stops b r l e

pub list_cut_sentence : (rev : Bool) (t : TcoefTable) (place : ℕ) → CutSentence (list rev t place) events_bits (GoodList rev t place)
list_cut_sentence rev t place b es (g, (r, (l, e))) = list_stops rev t place es b r g.0 l e

module _ (dc_coded rev : Bool) where
  pub block_cut_sentence : (s : Place) → CutSentence (read_block dc_coded rev s) (block_bits s) (GoodBlock dc_coded rev s)
  block_cut_sentence s =
      pair_cut (read_opt dc_coded (read_dc s.0)) (opt_bits (dc_bits s.0)) (GoodOpt dc_coded (GoodDc s.0))
      (read_opt s.1 (list rev Intra (first_place dc_coded))) (opt_bits events_bits) (GoodOpt s.1 (GoodList rev Intra (first_place dc_coded)))
      (opt_reads (read_dc s.0) (dc_bits s.0) (GoodDc s.0) (dc_reads s.0) dc_coded)
      (opt_cut (read_dc s.0) (dc_bits s.0) (GoodDc s.0) (dc_cut_sentence s.0) dc_coded)
      (opt_cut (list rev Intra (first_place dc_coded)) events_bits (GoodList rev Intra (first_place dc_coded)) (list_cut_sentence rev Intra (first_place dc_coded)) s.1)

  pub macroblock_cut_sentence : (pattern : List Bool) → CutSentence (read_macroblock dc_coded rev pattern) (macroblock_bits pattern) (GoodMacroblock dc_coded rev pattern)
  macroblock_cut_sentence pattern = each_cut (read_block dc_coded rev) block_bits (GoodBlock dc_coded rev) (block_reads dc_coded rev) block_cut_sentence (places_of_pattern pattern)
