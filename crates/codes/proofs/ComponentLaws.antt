-- A block's component by number is what is due, and the number tells the answers apart. Assumes nothing.
use mathlib.Core.Logic.{⊎_elim}
use mathlib.Core.Path.{◌≡◌, ap, refl, sym, ◌∙◌}
use Prim.Native.Nat.{ℕ, ◌<◌, ◌≤◌}
use native.Mathlib.Omega.{arith}
use borrow.Author.Tests.{le-ltb, lt-ltb}
use Rattle.numbers.proofs.Fill.{lt-or-le}
use Rattle.numbers.specs.Outcome.{Outcome, accepted, refused}
use Rattle.codes.specs.Component.{component_due, component_of, component_outcome}
use Rattle.codes.specs.declared.dc_size.DcComponent.{DcComponent}
use Rattle.std.specs.Prelude.{None, Option, Some}

pub component_due_lem : (i : ℕ) → component_outcome (component_of i) ≡ component_due i
component_due_lem i = ⊎_elim luminance (λ (h : 4 ≤ i). ⊎_elim (chrominance h) none (lt-or-le i 6)) (lt-or-le i 4)
  where
    luminance : i < 4 → component_outcome (component_of i) ≡ component_due i
    luminance h = simp (lt-ltb i 4 h, lt-ltb i 6 (omega arith))

    chrominance : 4 ≤ i → i < 6 → component_outcome (component_of i) ≡ component_due i
    chrominance h k = simp (le-ltb i 4 h, lt-ltb i 6 k)

    none : 6 ≤ i → component_outcome (component_of i) ≡ component_due i
    none h = simp (le-ltb i 4 (omega arith), le-ltb i 6 h)

-- an answer out of its outcome
abbrev component_by : Outcome DcComponent → Option DcComponent
component_by (accepted c) = Some c
component_by (refused n f) = None

component_by_lem : (r : Option DcComponent) → r ≡ component_by (component_outcome r)
component_by_lem (Some c) = refl
component_by_lem None = refl

pub component_apart : (r s : Option DcComponent) → component_outcome r ≡ component_outcome s → r ≡ s
component_apart r s h = component_by_lem r ∙ ap component_by h ∙ sym (component_by_lem s)
