-- Answers that hang on tests of the state, or on what was read, by numbers. Assumes nothing.
use mathlib.Core.Bool.{Bool}
use mathlib.Core.List.{List}
use mathlib.Core.Path.{◌≡◌, refl}
use Prim.Native.Nat.{ℕ}
use Rattle.numbers.proofs.OutcomeLaws.{Figureless, by_numbers, numbered}
use Rattle.numbers.specs.Outcome.{Outcome, accepted, checked, refused}
use Rattle.bits.specs.Bits.{Bits}
use Rattle.prediction.specs.declared.predictor.BlockPredictors.{BlockPredictors}
use Rattle.fields.specs.Answer.{after}
use Rattle.fields.specs.Outcomes.{read_as}
use Rattle.fields.specs.Reader.{Res, no, ok}
use Rattle.fields.specs.Refusal as T
use Rattle.fields.specs.declared.error.TextureParseError.{TextureParseError}
use Rattle.assembly.specs.Answer.{check_of, figure_of, first_bad, number_of, tests_of}
use Rattle.assembly.specs.Outcomes.{check_due, checked_outcome}
use Rattle.assembly.specs.declared.context.MacroblockTextureContext.{MacroblockTextureContext}
use Rattle.assembly.specs.declared.error.BlockAssemblyError.{BlockAssemblyError}
use Rattle.std.specs.Prelude.{Err, Ok, Result, ⊤}

-- the first test that fails gives its number; else what follows
pub answered : {A R : Type 0} (told : R → Outcome A) (by : Result ⊤ BlockAssemblyError → R) → ((e : BlockAssemblyError) → told (by (Err e)) ≡ refused (number_of e) (figure_of e))
    → (ts : List (Bool × BlockAssemblyError)) → Figureless figure_of ts → told (by (first_bad ts)) ≡ checked (numbered number_of ts) (told (by (Ok tt)))
answered told by h = by_numbers (λ (k : Result ⊤ BlockAssemblyError). told (by k)) Err (Ok tt) number_of figure_of h

pub check_due_lem : (d : List ℕ) (at : ℕ) (x : MacroblockTextureContext) (p : BlockPredictors) (w : List (List ℕ)) → checked_outcome (check_of d at x p w) ≡ check_due d at x p w
check_due_lem d at x p w = answered checked_outcome (λ (k : Result ⊤ BlockAssemblyError). k) (λ e. refl) (tests_of d at x p w) (refl, (refl, (refl, tt)))

-- what was read, by number
pub read_by : {R A B : Type 0} (told : R → Outcome B) (of : Res A → R) (f : A → ℕ → B) (d : List ℕ) → ((a : A) (r : Bits) → told (of (ok a r)) ≡ accepted (f a (after d r).bit_pos))
    → ((e : TextureParseError) → told (of (no e)) ≡ refused (T.number_of e) (T.figure_of e)) → (y : Res A) → told (of y) ≡ read_as f d y
read_by told of f d g h (ok a r) = g a r
read_by told of f d g h (no e) = h e
