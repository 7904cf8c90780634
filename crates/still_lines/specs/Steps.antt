-- What one step, a byte of the input or its end, answers and leaves in lent memory; and what a run of steps writes. Definitions only.
use Rattle.std.specs.Prelude.{Bool, cond, ◌&&◌, List, [], ◌++◌, ◌∷◌, ℕ, ◌+◌, ◌≤◌, eqb, leb, ltb, ℤ, drop, length, set, take}
use Rattle.forms.specs.Forms.{longest}
use Rattle.forms.specs.Reading.{data_after, room_for_data}
use Rattle.still_lines.specs.Still.{end_said, samples_after, still_after, store_after, text_after, unopened}
use Rattle.lines.specs.Fed.{fed_of, rest_of}
use Rattle.lines.specs.declared.fed.Fed.{Fed}
use Rattle.lines.specs.declared.fed.Fed.TheVariants.{Ended, Kept, Skipped}
use Rattle.still_lines.specs.declared.steps.Reading.{Reading}
use Rattle.still_lines.specs.declared.steps.Stepped.{Stepped}
use Rattle.still_lines.specs.declared.steps.Stepped.TheVariants.{TooShort, Went}
use Rattle.still_lines.specs.declared.still.Still.{Still}

-- before the first byte
abbrev pub at_start : Reading
at_start = record { still = unopened; n = 0 }

-- ---- the lent line, of which n bytes came: a byte that is no newline is put where there is room

unfoldable pub line_after : List ℕ → ℕ → ℕ → List ℕ
line_after l n b = cond (eqb b 10) l (cond (ltb n longest) (set l n b) l)

-- ---- what follows of it, with the lent line, samples and store

module _ (s : Still) (line : List ℕ) (samples store : List ℤ) where
  abbrev pub still_fed : Fed → Still
  still_fed (Kept n) = s
  still_fed (Ended n) = still_after s samples store (take n line)
  still_fed Skipped = s

  abbrev pub text_fed : Fed → List ℕ
  text_fed (Kept n) = []
  text_fed (Ended n) = text_after s samples store (take n line)
  text_fed Skipped = []

  abbrev pub samples_fed : Fed → List ℤ
  samples_fed (Kept n) = samples
  samples_fed (Ended n) = samples_after s samples store (take n line)
  samples_fed Skipped = samples

  abbrev pub store_fed : Fed → List ℤ
  store_fed (Kept n) = store
  store_fed (Ended n) = store_after s samples store (take n line)
  store_fed Skipped = store

  -- at the end of the input the `end` line follows
  abbrev pub text_ended : Fed → List ℕ
  text_ended f = text_fed f ++ end_said (still_fed f)

abbrev pub data_fed : List ℕ → List ℕ → Fed → List ℕ
data_fed line old (Kept n) = old
data_fed line old (Ended n) = data_after (take n line) old
data_fed line old Skipped = old

abbrev pub count_fed : Fed → ℕ
count_fed (Kept n) = n
count_fed (Ended n) = 0
count_fed Skipped = 0

-- ---- the answer

-- a line, its data and what is said to it have room: else nothing is done (14)
abbrev pub room_for_text : ℕ
room_for_text = 512

abbrev pub roomy : List ℕ → List ℕ → List ℕ → Bool
roomy line bytes out = leb longest (length line) && (leb room_for_data (length bytes) && leb room_for_text (length out))

-- where reading stands, and how many bytes are said
abbrev pub went : Still → ℕ → List ℕ → Stepped
went s n text = Went (record { still = s; n = n }) (length text)

-- they are the first of the lent ones, the rest is as before
abbrev pub said_into : List ℕ → List ℕ → List ℕ
said_into text out = text ++ drop (length text) out

-- ---- a step over lent memory

-- a line, its data, samples, store, and bytes for what is said
pub record Memory : Type 0 where
  pub line : List ℕ
  pub bytes : List ℕ
  pub samples : List ℤ
  pub store : List ℤ
  pub out : List ℕ

-- an answer, and the memory after it
pub record Left : Type 0 where
  pub answer : Stepped
  pub memory : Memory

abbrev pub lent : List ℕ → List ℕ → List ℤ → List ℤ → List ℕ → Memory
lent l b xs st o = record { line = l; bytes = b; samples = xs; store = st; out = o }

abbrev pub left : Stepped → Memory → Left
left a m = record { answer = a; memory = m }

-- what follows of what was fed: n bytes of a line are there then, and `text` is said
abbrev pub fed_to : Still → Memory → Fed → ℕ → List ℕ → Left
fed_to s x f n text =
    left (went (still_fed s x.line x.samples x.store f) n text)
    (lent x.line (data_fed x.line x.bytes f) (samples_fed s x.line x.samples x.store f) (store_fed s x.line x.samples x.store f) (said_into text x.out))

abbrev pub byte_to : Still → Memory → Fed → Left
byte_to s x f = fed_to s x f (count_fed f) (text_fed s x.line x.samples x.store f)

abbrev pub end_to : Still → Memory → Fed → Left
end_to s x f = fed_to s x f 0 (text_ended s x.line x.samples x.store f)

-- where there is room; else 14, and all is as before
abbrev pub with_room : Memory → Left → Left
with_room x a = cond (roomy x.line x.bytes x.out) a (left TooShort x)

-- the next byte, and the end of the input
unfoldable pub step_by : Reading → ℕ → Memory → Left
step_by r b x = with_room x (byte_to r.still (lent (line_after x.line r.n b) x.bytes x.samples x.store x.out) (fed_of r.n b))

unfoldable pub finish_by : Reading → Memory → Left
finish_by r x = with_room x (end_to r.still x (rest_of r.n))

-- ---- a run of steps, one for each byte and one for the end: what is written

unfoldable pub stepped : Still → ℕ → List ℕ → List ℤ → List ℤ → List ℕ → List ℕ
stepped s n line samples store [] = text_ended s line samples store (rest_of n)
stepped s n line samples store (b ∷ bs) =
    text_fed s (line_after line n b) samples store (fed_of n b)
    ++ stepped (still_fed s (line_after line n b) samples store (fed_of n b)) (count_fed (fed_of n b)) (line_after line n b)
    (samples_fed s (line_after line n b) samples store (fed_of n b)) (store_fed s (line_after line n b) samples store (fed_of n b)) bs

-- ---- inside the crate

-- a line that ended is no longer than the lent one
abbrev pub Inside : ℕ → Fed → Type 0
Inside room (Kept n) = Unit {0}
Inside room (Ended n) = n ≤ room
Inside room Skipped = Unit {0}
