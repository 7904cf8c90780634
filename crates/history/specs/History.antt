-- A run of openings and calls on a picture and one store, each as its contract says; and the promise on it. Definitions only.
use Rattle.std.specs.Prelude.{Bool, List, ◌≡◌, ℕ, ℤ, length, Err, Ok, Result}
use Rattle.picture.specs.Call.{answer_out, samples_out, store_out}
use Rattle.picture.specs.Whole as W
use Rattle.picture_state.specs.Picture.{open_of}
use Rattle.picture_state.specs.declared.picture.Picture.{Picture}
use Rattle.picture.specs.declared.call.PictureDecoded.{PictureDecoded}
use Rattle.assembly.specs.declared.error.BlockAssemblyError.{BlockAssemblyError}
use Rattle.picture.specs.declared.whole.PictureWholeDecoded.{PictureWholeDecoded}
use Rattle.history.specs.Ideal.{Ideal, blank_ideal, ideal_next, ideal_told, picture_now}
use Rattle.history.specs.Step.{Step, Told, after_all, decoded, handed, in_bits, opened, opening, told_all, whole_decoded}

-- the picture and the store, untouched between steps
pub record State : Type 0 where
  pub picture : Picture
  pub store : List ℤ

-- the picture handed back, or the one before a refusal
abbrev pub picture_opened : Picture → Result Picture BlockAssemblyError → Picture
picture_opened p (Ok q) = q
picture_opened p (Err e) = p

abbrev pub picture_after : Picture → Result PictureDecoded BlockAssemblyError → Picture
picture_after p (Ok d) = d.picture
picture_after p (Err e) = p

abbrev pub picture_after_whole : Picture → Result PictureWholeDecoded BlockAssemblyError → Picture
picture_after_whole p (Ok d) = d.picture
picture_after_whole p (Err e) = p

abbrev pub told : State → Step → Told
told s (opening w h depth method) = opened (open_of w h depth method)
told s (handed x) = decoded (answer_out s.picture x s.store) (samples_out s.picture x s.store)
told s (in_bits x) = whole_decoded (W.answer_out s.picture x s.store) (W.samples_out s.picture x s.store)

abbrev pub next : State → Step → State
next s (opening w h depth method) = record { picture = picture_opened s.picture (open_of w h depth method); store = s.store }
next s (handed x) = record { picture = picture_after s.picture (answer_out s.picture x s.store); store = store_out s.picture x s.store }
next s (in_bits x) = record { picture = picture_after_whole s.picture (W.answer_out s.picture x s.store); store = W.store_out s.picture x s.store }

-- every step is told what the ideal picture is told, and the picture after them is the ideal's
pub record Same (s : State) (i : Ideal) (xs : List Step) : Type 0 where
  pub answers : told_all told next s xs ≡ told_all (ideal_told (length s.store)) (ideal_next (length s.store)) i xs
  pub picture : (after_all told next s xs).picture ≡ picture_now (after_all (ideal_told (length s.store)) (ideal_next (length s.store)) i xs)

-- from an opening, on any store, whatever it holds and however long it is
abbrev pub History : Type 0
History =
    (w h depth : ℕ) (method : Bool) (p : Picture) → open_of w h depth method ≡ Ok p
    → (store : List ℤ) (xs : List Step) → Same (record { picture = p; store = store }) (blank_ideal w h depth method) xs
