-- Every run of openings and calls is told what the ideal picture is told. Assumes nothing.
use mathlib.Core.Bool.{Bool, cond, false, true}
use mathlib.Core.List.{List, [], ◌∷◌}
use mathlib.Core.Path.{◌≡◌, ap, ap₂, refl, subst, sym, ◌∙◌}
use Prim.Native.Nat.{ℕ, ◌*◌, ◌≤◌}
use native.Mathlib.Nat.{not-suc-le-zero}
use native.Mathlib.Omega.{arith}
use lib.IntN.{ℤ}
use lib.ListN.{length}
use Rattle.ranges.specs.Range.{depth_fine}
use Rattle.assembly.specs.declared.error.BlockAssemblyError.TheVariants.{Context, OutOfRange}
use Rattle.picture_state.specs.Picture.{open_of, picture_of, size_fine}
use Rattle.picture_state.specs.declared.picture.Picture.{Picture}
use Rattle.history.proofs.Calls.{Stands, stands_bare, stands_on, told-bare, told_is}
use Rattle.history.proofs.Places.{Kept}
use Rattle.history.specs.History.{History, State, next, picture_opened, told}
use Rattle.history.specs.Ideal.{Ideal, blank_ideal, ideal, ideal_next, ideal_told, onward_from, reopened}
use Rattle.history.specs.Step.{Step, Told, after_all, handed, in_bits, opening, told_all}
use Rattle.std.specs.Prelude.{Err, Ok, Result}
use Rattle.assembly.specs.declared.error.BlockAssemblyError.{BlockAssemblyError}

-- ---- an opening

opened : (a b : Bool) (p q : Picture) → cond a (cond b (Ok p) (Err Context)) (Err OutOfRange) ≡ Ok q → (a ≡ true) × (p ≡ q)
opened true true p q e = (refl, cc)
opened true false p q e = absurd (let z : ◌≡◌ {A = ℕ} 0 1 = cc in omega arith)
opened false b p q e = absurd (let z : ◌≡◌ {A = ℕ} 0 1 = cc in omega arith)

-- an accepted one, whatever the store holds
stands_first : (w h depth : ℕ) (method : Bool) (p : Picture) → open_of w h depth method ≡ Ok p
    → (s : List ℤ) → Stands (length s) (record { picture = p; store = s }) (blank_ideal w h depth method)
stands_first w h depth method p e s =
    let o = opened (size_fine w h) (depth_fine depth) (picture_of w h depth method 0) p e in
    record { picture = sym o.1; size = o.0; long = refl; kept = λ l j b c. absurd (not-suc-le-zero b) }

-- ---- a step

module _ (room : ℕ) (s : State) (i : Ideal) (H : Stands room s i) where
  stands_opened : (w h depth : ℕ) (method : Bool) (o : Result Picture BlockAssemblyError) → open_of w h depth method ≡ o
      → Stands room (record { picture = picture_opened s.picture o; store = s.store }) (reopened i w h depth method o)
  stands_opened w h depth method (Ok p) e = subst (λ (r : ℕ). Stands r (record { picture = p; store = s.store }) (blank_ideal w h depth method)) H.long (stands_first w h depth method p e s.store)
  stands_opened w h depth method (Err n) e = record { picture = H.picture; size = H.size; long = H.long; kept = H.kept }

  kept_here : 192 * i.width ≤ length s.store → Kept i.width s.store i.accepted
  kept_here l = H.kept (omega (arith, H.long))

  told_same : (x : Step) → told s x ≡ ideal_told room i x
  told_same (opening w h depth method) = refl
  told_same (handed x) =
      ap (λ (y : Picture). told (record { picture = y; store = s.store }) (handed x)) H.picture
      ∙ told_is i s.store H.size kept_here x
      ∙ ap (λ (r : ℕ). ideal r i x) H.long
  told_same (in_bits x) =
      ap (λ (y : Picture). told (record { picture = y; store = s.store }) (in_bits x)) H.picture
      ∙ told-bare i s.store H.size kept_here x
      ∙ ap (λ (r : ℕ). ideal_told r i (in_bits x)) H.long

  stands_next : (x : Step) → Stands room (next s x) (ideal_next room i x)
  stands_next (opening w h depth method) = stands_opened w h depth method (open_of w h depth method) refl
  stands_next (handed x) =
      subst (λ (r : ℕ). Stands r (next s (handed x)) (onward_from r i x)) H.long
      (subst (λ (y : Picture). Stands (length s.store) (next (record { picture = y; store = s.store }) (handed x)) (onward_from (length s.store) i x)) (sym H.picture)
      (stands_on i s.store H.size kept_here x))
  stands_next (in_bits x) =
      subst (λ (r : ℕ). Stands r (next s (in_bits x)) (ideal_next r i (in_bits x))) H.long
      (subst (λ (y : Picture). Stands (length s.store) (next (record { picture = y; store = s.store }) (in_bits x)) (ideal_next (length s.store) i (in_bits x))) (sym H.picture)
      (stands_bare i s.store H.size kept_here x))

-- ---- a run, from any state that stands for an ideal picture

module _ (room : ℕ) where
  pub told_all_lem : (xs : List Step) (s : State) (i : Ideal) → Stands room s i → told_all told next s xs ≡ told_all (ideal_told room) (ideal_next room) i xs
  unfolding told_all
  told_all_lem [] s i H = refl
  told_all_lem (x ∷ xs) s i H = ap₂ (λ (t : Told) (ts : List Told). t ∷ ts) (told_same room s i H x) (told_all_lem xs (next s x) (ideal_next room i x) (stands_next room s i H x))

  pub stands_after : (xs : List Step) (s : State) (i : Ideal) → Stands room s i → Stands room (after_all told next s xs) (after_all (ideal_told room) (ideal_next room) i xs)
  unfolding after_all
  stands_after [] s i H = H
  stands_after (x ∷ xs) s i H = stands_after xs (next s x) (ideal_next room i x) (stands_next room s i H x)

-- ---- from an opening

pub history : History
history w h depth method p e store xs =
    let s : State = record { picture = p; store = store } in
    let i = blank_ideal w h depth method in
    let H = stands_first w h depth method p e store in
    record { answers = told_all_lem (length store) xs s i H; picture = (stands_after (length store) xs s i H).picture }
