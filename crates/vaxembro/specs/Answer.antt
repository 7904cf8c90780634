-- What a call tells, as nine numbers in lent memory. Definitions only.
use Rattle.std.specs.Prelude.{cond, List, [], ◌++◌, ◌∷◌, ℕ, ◌%◌, ◌+◌, leb, ltb, drop, get_or, length, Result}
use Rattle.numbers.specs.Outcome.{Outcome, accepted, refused}
use Rattle.events.specs.Spellings.{no_spellings}
use Rattle.events.specs.declared.spelling.Spellings.{Spellings}
use Rattle.macroblock.specs.Outcomes.{macroblock_outcome}
use Rattle.picture.specs.Outcomes.{picture_outcome}
use Rattle.picture_state.specs.declared.picture.Picture.{Picture}
use Rattle.vaxembro.specs.declared.answer.Told.{Told}
use Rattle.macroblock.specs.declared.decode.MacroblockDecoded.{MacroblockDecoded}
use Rattle.assembly.specs.declared.error.BlockAssemblyError.{BlockAssemblyError}
use Rattle.picture.specs.declared.call.PictureDecoded.{PictureDecoded}

-- accepted: no number and no figure; refused: no bits and no events, and the position is the start
abbrev pub accepted_as : ℕ → ℕ → Spellings → Told
accepted_as bits position spellings = record { number = 0; figure = 0; bits = bits; position = position; spellings = spellings }

abbrev pub refused_as : ℕ → ℕ → ℕ → Told
refused_as number figure at = record { number = number; figure = figure; bits = 0; position = at; spellings = no_spellings }

-- an outcome of which f says the bits taken, the position after them and the number of events of each spelling, of a call that started at `at`
abbrev pub told_by : {A : Type 0} → (A → ℕ × (ℕ × Spellings)) → Outcome A → ℕ → Told
told_by f (accepted a) at = accepted_as (f a).0 (f a).1.0 (f a).1.1
told_by f (refused number figure) at = refused_as number figure at

-- of a call in a picture
abbrev pub told_of : Result PictureDecoded BlockAssemblyError → ℕ → Told
told_of d at = told_by (λ (b : ℕ × (ℕ × (Spellings × Picture))). (b.0, (b.1.0, b.1.1.0))) (picture_outcome d) at

-- of a macroblock read alone
abbrev pub told_alone : Result MacroblockDecoded BlockAssemblyError → ℕ → Told
told_alone d at = told_by (λ (b : ℕ × (ℕ × Spellings)). b) (macroblock_outcome d) at

-- the number alone; 0 where nothing was refused
abbrev pub number_in : {A : Type 0} → Outcome A → ℕ
number_in (accepted a) = 0
number_in (refused number figure) = number

-- the numbers of an answer
abbrev pub answer_length : ℕ
answer_length = 9

abbrev pub answer_of : Told → List ℕ
answer_of t =
    t.number ∷ t.figure ∷ t.bits ∷ t.position
    ∷ t.spellings.plain ∷ t.spellings.type1 ∷ t.spellings.type2 ∷ t.spellings.type3 ∷ t.spellings.rvlc_escape ∷ []

-- the first nine numbers are the answer, the rest is as before; fewer than nine stay as they were
unfoldable pub answer_after : Told → List ℕ → List ℕ
answer_after t old = cond (leb answer_length (length old)) (answer_of t ++ drop answer_length old) old

-- number k of an answer; 0 where the answer is too short
unfoldable pub told_at : List ℕ → ℕ → ℕ
told_at a k = cond (leb answer_length (length a)) (get_or a k 0) 0

-- as a u32: the number, the figure and the spellings of an answer are below 2 ^ 32
abbrev pub low : ℕ → ℕ
low n = n % 4294967296

-- the number of events of a spelling: 0 is plain, 1 to 3 an escape of that type, 4 a reversible escape; of any other 0
unfoldable pub spelling_in : List ℕ → ℕ → ℕ
spelling_in a which = cond (ltb which 5) (low (told_at a (4 + which))) 0
