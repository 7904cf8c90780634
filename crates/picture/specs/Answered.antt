-- All that a call in a picture promises. Definitions only.
use Rattle.std.specs.Prelude.{List, ◌≡◌, ℤ, Result}
use Rattle.picture_state.specs.declared.picture.Picture.{Picture}
use Rattle.picture.specs.Call.{Input, answer_out, samples_out, store_out}
use Rattle.picture.specs.InPicture.{DemandInPicture, StoppedInPicture}
use Rattle.picture.specs.Outcomes.{call_due, picture_outcome}
use Rattle.picture.specs.declared.call.PictureDecoded.{PictureDecoded}
use Rattle.assembly.specs.declared.error.BlockAssemblyError.{BlockAssemblyError}

-- of a call on a picture and a store: what is answered, and what samples and store then hold
pub record Answered (p : Picture) (x : Input) (before : List ℤ) (r : Result PictureDecoded BlockAssemblyError) (out after : List ℤ) : Type 0 where
  pub answer : r ≡ answer_out p x before
  pub samples : out ≡ samples_out p x before
  pub store : after ≡ store_out p x before
  pub demand : DemandInPicture p x before r out after
  -- the answer by number
  pub outcome : picture_outcome r ≡ call_due p x before
  -- where the sentence breaks off
  pub stopped : StoppedInPicture p x before r
