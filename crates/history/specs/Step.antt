-- What a run is made of: openings and calls, and what each is told. Definitions only.
use Rattle.std.specs.Prelude.{Bool, List, [], ◌∷◌, ℕ, ℤ, Result}
use Rattle.picture.specs.Call.{Input}
use Rattle.picture.specs.Whole.{Bare}
use Rattle.picture.specs.declared.call.PictureDecoded.{PictureDecoded}
use Rattle.assembly.specs.declared.error.BlockAssemblyError.{BlockAssemblyError}
use Rattle.picture.specs.declared.whole.PictureWholeDecoded.{PictureWholeDecoded}
use Rattle.picture_state.specs.declared.picture.Picture.{Picture}

pub data Step : Type 0 where
  -- width, height, depth, method
  opening : (width height depth : ℕ) (method : Bool) → Step
  -- a call that is handed its header, and one whose header is in its bits
  handed : Input → Step
  in_bits : Bare → Step

-- the answer; of a macroblock the samples as well
pub data Told : Type 0 where
  opened : Result Picture BlockAssemblyError → Told
  decoded : Result PictureDecoded BlockAssemblyError → List ℤ → Told
  whole_decoded : Result PictureWholeDecoded BlockAssemblyError → List ℤ → Told

-- a run of steps over states of any kind: what each step is told, and the state after all
module _ {S : Type 0} (told : S → Step → Told) (next : S → Step → S) where
  unfoldable pub told_all : S → List Step → List Told
  told_all s [] = []
  told_all s (x ∷ xs) = told s x ∷ told_all (next s x) xs

  unfoldable pub after_all : S → List Step → S
  after_all s [] = s
  after_all s (x ∷ xs) = after_all (next s x) xs
