-- What `still` writes for a whole input, byte for byte. Definitions only.
use Rattle.std.specs.Prelude.{List, [], ◌++◌, ◌∷◌, ℕ, ℤ}
use Rattle.still_lines.specs.Lines.{lines_of}
use Rattle.still_lines.specs.Still.{end_said, samples_after, still_after, store_after, text_after, unopened}
use Rattle.still_lines.specs.declared.still.Still.{Still}

-- to each line its answer; at the end of the input the `end` line of the open picture
unfoldable pub written_to : Still → List ℤ → List ℤ → List (List ℕ) → List ℕ
written_to s samples store [] = end_said s
written_to s samples store (l ∷ ls) = text_after s samples store l ++ written_to (still_after s samples store l) (samples_after s samples store l) (store_after s samples store l) ls

-- with the samples and the store that are lent at the start
abbrev pub transcript : List ℤ → List ℤ → List ℕ → List ℕ
transcript samples store input = written_to unopened samples store (lines_of input)
