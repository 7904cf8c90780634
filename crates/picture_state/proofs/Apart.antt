-- The outcome of an opening and of the checks of a call tells its answer. Assumes nothing.
use mathlib.Core.Bool.{Bool, cond, false, true}
use mathlib.Core.List.{List, ◌++◌}
use mathlib.Core.Path.{◌≡◌, refl}
use Prim.Native.Nat.{ℕ}
use Rattle.ranges.specs.Range.{depth_fine}
use Rattle.assembly.proofs.Apart.{Told, after-told, answers-apart, failed, fine, first_told, taken}
use Rattle.assembly.specs.declared.context.MacroblockTextureContext.{MacroblockTextureContext}
use Rattle.assembly.specs.declared.error.BlockAssemblyError.TheVariants.{Context, OutOfRange}
use Rattle.headers.specs.declared.header.MacroblockHeader.{MacroblockHeader}
use Rattle.neighbours.specs.Neighbours.{Around}
use Rattle.picture_state.specs.Outcomes.{opened_outcome, state_outcome}
use Rattle.picture_state.specs.Picture.{open_of, picture_of, size_fine}
use Rattle.picture_state.specs.State.{checked_by, due_of, first_tests, later_tests, state_by}
use Rattle.picture_state.specs.declared.picture.Picture.{Picture}
use Rattle.std.specs.Prelude.{Err, Ok, Result}
use Rattle.assembly.specs.declared.error.BlockAssemblyError.{BlockAssemblyError}
use Rattle.picture_state.specs.declared.state.Due.{Due}

-- ---- an opening

pub opened-apart : (r s : Result Picture BlockAssemblyError) → Told Ok Err r → Told Ok Err s → opened_outcome r ≡ opened_outcome s → r ≡ s
opened-apart = answers-apart Ok Err opened_outcome (λ a. refl) (λ e. refl)

pub opened-told : (w h depth : ℕ) (method : Bool) → Told Ok Err (open_of w h depth method)
opened-told w h depth method = go (size_fine w h) (depth_fine depth)
  where
    go : (s t : Bool) → Told Ok Err (cond s (cond t (Ok (picture_of w h depth method 0)) (Err Context)) (Err OutOfRange))
    go true true = taken _ refl
    go true false = failed Context tt refl
    go false t = failed OutOfRange tt refl

-- ---- the checks

pub state-apart : (r s : Result Due BlockAssemblyError) → Told Ok Err r → Told Ok Err s → state_outcome r ≡ state_outcome s → r ≡ s
state-apart = answers-apart Ok Err state_outcome (λ a. refl) (λ e. refl)

module _ (p : Picture) (d : List ℕ) (at : ℕ) (h : MacroblockHeader) (x : MacroblockTextureContext) (w : List (List ℕ)) (room stored : ℕ) (ar : Around) where
  pub state-told : Told fine Err (state_by p d at h x w room stored ar)
  unfolding state_by
  state-told = first_told (first_tests p d at x w room stored ++ later_tests p h x ar) (tt, (tt, (tt, (tt, (tt, (tt, (tt, (tt, (tt, tt)))))))))

  pub checked-told : Told Ok Err (checked_by p x (state_by p d at h x w room stored ar))
  checked-told = after-told Ok Err (checked_by p x) (λ e. refl) (taken (due_of p x) refl) (state_by p d at h x w room stored ar) state-told
