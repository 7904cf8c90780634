-- A list with one more at its end. Assumes nothing.
use mathlib.Core.List.{List, [], ◌++◌, ◌∷◌}
use mathlib.Core.Path.{◌≡◌, ap, ◌∙◌}
use Prim.Native.Nat.{ℕ, ◌+◌, ◌<◌}
use lib.ListN.{get_or-append, get_or, length, length-append}
use lib.Seq.{get_or-append_seam}

module _ {A : Type 0} (xs : List A) (y : A) where
  pub longer : length (xs ++ (y ∷ [])) ≡ length xs + 1
  longer = length-append xs (y ∷ [])

  module _ (d : A) (j : ℕ) where
    pub before : j < length xs → get_or (xs ++ (y ∷ [])) j d ≡ get_or xs j d
    before h = get_or-append xs (y ∷ []) d j h

    pub last : j ≡ length xs → get_or (xs ++ (y ∷ [])) j d ≡ y
    last e = ap (λ (k : ℕ). get_or (xs ++ (y ∷ [])) k d) e ∙ get_or-append_seam xs y [] d
