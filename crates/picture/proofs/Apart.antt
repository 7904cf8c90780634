-- The outcome of a call in a picture tells its answer. Assumes nothing.
use mathlib.Core.List.{List, ◌++◌}
use mathlib.Core.Path.{◌≡◌, refl}
use Prim.Native.Nat.{ℕ}
use lib.IntN.{ℤ}
use lib.ListN.{length}
use Rattle.bits.specs.Bits.{bits_from}
use Rattle.bits.specs.Cursor.{cursor_at}
use Rattle.events.specs.declared.spelling.Spellings.{Spellings}
use Rattle.assembly.proofs.Apart.{Told, after-told, answers-apart, first_told, read_told, taken}
use Rattle.headers.specs.declared.parse.HeaderFields.{HeaderFields}
use Rattle.macroblock.proofs.Apart.{sentence_by_bits, whole_by_bits}
use Rattle.picture_state.proofs.Apart.{state-told}
use Rattle.picture_state.specs.Picture.{context_of}
use Rattle.picture_state.specs.Ring.{around_due}
use Rattle.picture_state.specs.State.{first_tests, neighbour_tests, state_before}
use Rattle.picture_state.specs.declared.picture.Picture.{Picture}
use Rattle.picture.specs.Call.{Input, answer_out, answer_told, answer_with, sentence_here, state_here}
use Rattle.picture.specs.Outcomes.{picture_outcome}
use Rattle.picture.specs.Whole as W
use Rattle.picture.specs.Whole.{Bare, state_bare, whole_by, whole_here, whole_told}
use Rattle.picture.specs.WholeAnswered.{whole_outcome}
use Rattle.std.specs.Prelude.{Err, Ok, Result, ⊤}
use Rattle.assembly.specs.declared.error.BlockAssemblyError.{BlockAssemblyError}
use Rattle.picture.specs.declared.call.PictureDecoded.{PictureDecoded}
use Rattle.picture.specs.declared.whole.PictureWholeDecoded.{PictureWholeDecoded}

abbrev pub decoded : ℕ × (ℕ × (Spellings × Picture)) → Result PictureDecoded BlockAssemblyError
decoded a = Ok (record { bits = a.0; next = cursor_at a.1.0; spellings = a.1.1.0; picture = a.1.1.1 })

pub picture-apart : (r s : Result PictureDecoded BlockAssemblyError) → Told decoded Err r → Told decoded Err s → picture_outcome r ≡ picture_outcome s → r ≡ s
picture-apart = answers-apart decoded Err picture_outcome (λ a. refl) (λ e. refl)

pub picture-told : (p : Picture) (x : Input) (store : List ℤ) → Told decoded Err (answer_out p x store)
unfolding answer_out
picture-told p x store =
    after-told decoded Err (answer_with p x) (λ e. refl)
    (read_told decoded Err (answer_told p x.bytes x.start) (λ s r. taken (_, (_, (_, _))) refl) (λ e. refl) (sentence_here p x)
    (sentence_by_bits x.bytes x.start x.header x.context.use_intra_dc_vlc x.context.reversible_vlc))
    (state_here p x store) (state-told p x.bytes x.start x.header _ x.matrix (length x.samples) (length store) _)

-- ---- a whole macroblock

abbrev pub wholly : ℕ × (ℕ × (Spellings × (Picture × HeaderFields))) → Result PictureWholeDecoded BlockAssemblyError
wholly a = Ok (record { bits = a.0; next = cursor_at a.1.0; spellings = a.1.1.0; picture = a.1.1.1.0; fields = a.1.1.1.1 })

pub whole_apart : (r s : Result PictureWholeDecoded BlockAssemblyError) → Told wholly Err r → Told wholly Err s → whole_outcome r ≡ whole_outcome s → r ≡ s
whole_apart = answers-apart wholly Err whole_outcome (λ a. refl) (λ e. refl)

pub whole-told : (p : Picture) (x : Bare) (store : List ℤ) → Told wholly Err (W.answer_out p x store)
unfolding W.answer_out state_before
whole-told p x store =
    after-told wholly Err (λ (k : Result ⊤ BlockAssemblyError). whole_by p x k (whole_told p x (whole_here p x))) (λ e. refl)
    (read_told wholly Err (whole_told p x) (λ m r. taken (_, (_, (_, (_, _)))) refl) (λ e. refl) (whole_here p x) (whole_by_bits x.context.use_intra_dc_vlc x.context.reversible_vlc (bits_from x.bytes x.start)))
    (state_bare p x store)
    (first_told (first_tests p x.bytes x.start (context_of p x.context) x.matrix (length x.samples) (length store) ++ neighbour_tests p (context_of p x.context) (around_due p x.context.quantiser_scale store))
    (tt, (tt, (tt, (tt, (tt, (tt, (tt, tt))))))))
