-- The answer to a block by number is what is due. Assumes nothing.
use mathlib.Core.Bool.{Bool, cond}
use mathlib.Core.List.{List, [], ◌∷◌}
use mathlib.Core.Logic.{⊎_elim}
use mathlib.Core.Path.{◌≡◌, ap, ap₂, refl, sym, ◌∙◌}
use Prim.Native.Nat.{ℕ, ◌<◌, ◌≤◌}
use native.Mathlib.Omega.{arith}
use lib.Dec.{ltb}
use lib.IntN.{ℤ}
use lib.ListN.{length}
use borrow.Author.Tests.{le-ltb, lt-ltb}
use Rattle.numbers.proofs.Fill.{lt-or-le}
use Rattle.numbers.specs.Grid.{cell}
use Rattle.numbers.specs.Outcome.{Outcome, checked, refused}
use Rattle.bits.specs.Bits.{bits_from}
use Rattle.bits.specs.Cursor.{in_data}
use Rattle.codes.specs.Component.{component_at, component_of}
use Rattle.codes.specs.declared.dc_size.DcComponent.{DcComponent}
use Rattle.codes.specs.declared.dc_size.DcComponent.TheVariants.{Chrominance, Luminance}
use Rattle.coefficients.specs.Level.{predictors_fine}
use Rattle.prediction.specs.declared.predictor.BlockPredictors.{BlockPredictors}
use Rattle.events.specs.declared.spelling.Spellings.{Spellings}
use Rattle.sentences.proofs.CountLaws.{counts_of}
use Rattle.sentences.specs.MacroblockReader.{read_block}
use Rattle.fields.specs.Outcomes.{read_as}
use Rattle.assembly.proofs.OutcomeLaws.{answered, read_by}
use Rattle.assembly.specs.Answer.{check_of, tests_of}
use Rattle.block.specs.Decoded.{answer_of, block_answer, told, values_in}
use Rattle.block.specs.Outcomes.{block_due, block_outcome}
use Rattle.assembly.specs.Values.{context_fine}
use Rattle.assembly.specs.declared.context.MacroblockTextureContext.{MacroblockTextureContext}
use Rattle.std.specs.Prelude.{None, Option, Result, Some}
use Rattle.block.specs.declared.intra.BlockDecoded.{BlockDecoded}
use Rattle.assembly.specs.declared.error.BlockAssemblyError.{BlockAssemblyError}

module _ (d : List ℕ) (at : ℕ) (coded dc_coded rev : Bool) (x : MacroblockTextureContext) (p : BlockPredictors) (w : List (List ℕ)) where
  -- of a component
  component_due_lem : (c : DcComponent) → block_outcome (answer_of d at coded dc_coded rev x p w (Some c) (check_of d at x p w))
      ≡ checked ((in_data (length d) at, 11) ∷ (context_fine x w, 12) ∷ (predictors_fine p, 13) ∷ [])
      (read_as (λ s position. (cell (values_in d c dc_coded x p w s) 0 0, (position, counts_of s))) d (read_block dc_coded rev (c, coded) (bits_from d at)))
  component_due_lem c =
      answered block_outcome (answer_of d at coded dc_coded rev x p w (Some c)) (λ e. refl) (tests_of d at x p w) (refl, (refl, (refl, tt)))
      ∙ ap (checked ((in_data (length d) at, 11) ∷ (context_fine x w, 12) ∷ (predictors_fine p, 13) ∷ []))
      (read_by block_outcome (told d c dc_coded x p w) (λ s position. (cell (values_in d c dc_coded x p w s) 0 0, (position, counts_of s))) d (λ a r. refl) (λ e. refl) (read_block dc_coded rev (c, coded) (bits_from d at)))

  abbrev answer : Option DcComponent → Result BlockDecoded BlockAssemblyError
  answer m = answer_of d at coded dc_coded rev x p w m (check_of d at x p w)

  abbrev due_of : Bool → DcComponent → Outcome (ℤ × (ℕ × Spellings))
  due_of t c =
      cond t (checked ((in_data (length d) at, 11) ∷ (context_fine x w, 12) ∷ (predictors_fine p, 13) ∷ [])
      (read_as (λ s position. (cell (values_in d c dc_coded x p w s) 0 0, (position, counts_of s))) d (read_block dc_coded rev (c, coded) (bits_from d at)))) (refused 11 0)

  abbrev component_by : Bool → Bool → Option DcComponent
  component_by s t = cond s (Some Luminance) (cond t (Some Chrominance) None)

  pub block_due_lem : (i : ℕ) → block_outcome (block_answer d at coded dc_coded rev x p w i) ≡ block_due d at x p w i coded dc_coded rev
  block_due_lem i = ⊎_elim four (λ (l : 4 ≤ i). ⊎_elim (six l) none (lt-or-le i 6)) (lt-or-le i 4)
    where
      four : i < 4 → block_outcome (answer (component_of i)) ≡ due_of (ltb i 6) (component_at i)
      four h =
          ap (λ (s : Bool). block_outcome (answer (component_by s (ltb i 6)))) (lt-ltb i 4 h)
          ∙ component_due_lem Luminance
          ∙ sym (ap₂ (λ (s t : Bool). due_of t (cond s Luminance Chrominance)) (lt-ltb i 4 h) (lt-ltb i 6 (omega arith)))

      six : 4 ≤ i → i < 6 → block_outcome (answer (component_of i)) ≡ due_of (ltb i 6) (component_at i)
      six l h =
          ap₂ (λ (s t : Bool). block_outcome (answer (component_by s t))) (le-ltb i 4 l) (lt-ltb i 6 h)
          ∙ component_due_lem Chrominance
          ∙ sym (ap₂ (λ (s t : Bool). due_of t (cond s Luminance Chrominance)) (le-ltb i 4 l) (lt-ltb i 6 h))

      none : 6 ≤ i → block_outcome (answer (component_of i)) ≡ due_of (ltb i 6) (component_at i)
      none h =
          ap₂ (λ (s t : Bool). block_outcome (answer (component_by s t))) (le-ltb i 4 (omega arith)) (le-ltb i 6 h)
          ∙ sym (ap (λ (t : Bool). due_of t (component_at i)) (le-ltb i 6 h))
