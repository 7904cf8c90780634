-- The checks of the state, those of a block first and a header's last, and what a state that passes is. Assumes nothing.
use mathlib.Core.Bool.{Bool, cond, true}
use mathlib.Core.List.{List, [], ◌++◌, ◌∷◌}
use mathlib.Core.Path.{◌≡◌, ap, ◌∙◌}
use Prim.Native.Nat.{ℕ, ◌≤◌}
use lib.Dec.{leb}
use lib.ListN.{length}
use borrow.Author.Tests.{leb-true}
use Rattle.bits.specs.Cursor.{in_data}
use Rattle.coefficients.specs.Level.{predictors_fine}
use Rattle.prediction.specs.declared.predictor.BlockPredictors.{BlockPredictors}
use Rattle.assembly.proofs.TestLaws.{all_pass, bad_first, fine_first}
use Rattle.assembly.specs.Answer.{check_of, tests_of}
use Rattle.assembly.specs.Values.{context_fine}
use Rattle.assembly.specs.declared.context.MacroblockTextureContext.{MacroblockTextureContext}
use Rattle.assembly.specs.declared.error.BlockAssemblyError.{BlockAssemblyError}
use Rattle.assembly.specs.declared.error.BlockAssemblyError.TheVariants.{TooShort}
use Rattle.macroblock.specs.Answer.{room_of, state_of}
use Rattle.headers.specs.Fields.{header_check, header_tests}
use Rattle.headers.specs.declared.header.MacroblockHeader.{MacroblockHeader}
use Rattle.std.specs.Prelude.{Err, Ok}

pub record StateFine (d : List ℕ) (at : ℕ) (x : MacroblockTextureContext) (p : BlockPredictors) (w : List (List ℕ)) (room : ℕ) : Type 0 where
  pub inside : in_data (length d) at ≡ true
  pub context : context_fine x w ≡ true
  pub predictors : predictors_fine p ≡ true
  pub roomy : 384 ≤ room

-- without a header
module _ (d : List ℕ) (at : ℕ) (x : MacroblockTextureContext) (p : BlockPredictors) (w : List (List ℕ)) (room : ℕ) where
  pub room_bad : {e : BlockAssemblyError} → check_of d at x p w ≡ Err e → room_of d at x p w room ≡ Err e
  unfolding room_of
  room_bad q = bad_first (tests_of d at x p w) ((leb 384 room, TooShort) ∷ []) q

  pub room_after : (r : Bool) → check_of d at x p w ≡ Ok tt → leb 384 room ≡ r → room_of d at x p w room ≡ cond r (Ok tt) (Err TooShort)
  unfolding room_of
  room_after r q e = fine_first (tests_of d at x p w) ((leb 384 room, TooShort) ∷ []) q ∙ ap (λ (t : Bool). cond t (Ok tt) (Err TooShort)) e

  pub room_fine : room_of d at x p w room ≡ Ok tt → StateFine d at x p w room
  unfolding room_of
  room_fine q =
      let t = all_pass (tests_of d at x p w ++ ((leb 384 room, TooShort) ∷ [])) q in
      record { inside = t.0; context = t.1.0; predictors = t.1.1.0; roomy = leb-true 384 room t.1.1.1.0 }

-- and then the header
module _ (d : List ℕ) (at : ℕ) (h : MacroblockHeader) (x : MacroblockTextureContext) (p : BlockPredictors) (w : List (List ℕ)) (room : ℕ) where
  pub state-bad : {e : BlockAssemblyError} → room_of d at x p w room ≡ Err e → state_of d at h x p w room ≡ Err e
  unfolding room_of state_of
  state-bad q = bad_first (tests_of d at x p w ++ ((leb 384 room, TooShort) ∷ [])) (header_tests h) q

  pub state-after : room_of d at x p w room ≡ Ok tt → state_of d at h x p w room ≡ header_check h
  unfolding room_of state_of
  state-after q = fine_first (tests_of d at x p w ++ ((leb 384 room, TooShort) ∷ [])) (header_tests h) q

  pub state-fine : state_of d at h x p w room ≡ Ok tt → StateFine d at x p w room
  unfolding state_of
  state-fine q =
      let t = all_pass (tests_of d at x p w ++ ((leb 384 room, TooShort) ∷ header_tests h)) q in
      record { inside = t.0; context = t.1.0; predictors = t.1.1.0; roomy = leb-true 384 room t.1.1.1.0 }
