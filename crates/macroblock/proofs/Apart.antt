-- The outcome of a call tells its answer. Assumes nothing.
use mathlib.Core.Bool.{Bool}
use mathlib.Core.List.{List, [], ◌++◌, ◌∷◌}
use mathlib.Core.Path.{◌≡◌, refl}
use Prim.Native.Nat.{ℕ}
use lib.Dec.{leb}
use lib.IntN.{ℤ}
use lib.ListN.{length}
use Rattle.bits.specs.Bits.{Bits, bits_from}
use Rattle.bits.specs.Cursor.{cursor_at}
use Rattle.prediction.specs.declared.predictor.BlockPredictors.{BlockPredictors}
use Rattle.events.specs.declared.spelling.Spellings.{Spellings}
use Rattle.fields.proofs.ByBits.{ByBits, then}
use Rattle.sentences.proofs.ByBits.{macroblock_by_bits}
use Rattle.sentences.specs.MacroblockReader.{read_macroblock}
use Rattle.assembly.proofs.Apart.{Told, after-told, answers-apart, fine, first_told, read_told, taken}
use Rattle.assembly.specs.Answer.{tests_of}
use Rattle.assembly.specs.declared.context.MacroblockTextureContext.{MacroblockTextureContext}
use Rattle.assembly.specs.declared.error.BlockAssemblyError.TheVariants.{TooShort}
use Rattle.macroblock.specs.Answer.{answer_by, macroblock_answer, room_of, sentence_of, state_of, told}
use Rattle.headers.proofs.HeaderLaws.{header_by_bits}
use Rattle.headers.specs.Fields.{header_tests, pattern_by, pattern_in}
use Rattle.headers.specs.HeaderReader.{read_header}
use Rattle.headers.specs.declared.parse.HeaderFields.{HeaderFields}
use Rattle.macroblock.specs.Outcomes.{macroblock_outcome}
use Rattle.macroblock.specs.WholeAnswer.{whole_answer, whole_by, whole_of, whole_outcome, whole_told}
use Rattle.macroblock.specs.WholeReader.{read_whole}
use Rattle.headers.specs.declared.header.MacroblockHeader.{MacroblockHeader}
use Rattle.std.specs.Prelude.{Err, Ok, Result, ⊤}
use Rattle.assembly.specs.declared.error.BlockAssemblyError.{BlockAssemblyError}
use Rattle.macroblock.specs.declared.decode.MacroblockDecoded.{MacroblockDecoded}
use Rattle.macroblock.specs.declared.whole.WholeDecoded.{WholeDecoded}

-- what is read of a macroblock is refused by 1 to 8 or 17
pub sentence_by_bits : (d : List ℕ) (at : ℕ) (h : MacroblockHeader) (dc_coded rev : Bool) → ByBits (sentence_of d at h dc_coded rev)
unfolding sentence_of
sentence_by_bits d at h dc_coded rev = macroblock_by_bits dc_coded rev (pattern_by h) (bits_from d at)

abbrev pub decoded : ℕ × (ℕ × Spellings) → Result MacroblockDecoded BlockAssemblyError
decoded a = Ok (record { bits = a.0; next = cursor_at a.1.0; spellings = a.1.1 })

pub macroblock-apart : (r s : Result MacroblockDecoded BlockAssemblyError) → Told decoded Err r → Told decoded Err s → macroblock_outcome r ≡ macroblock_outcome s → r ≡ s
macroblock-apart = answers-apart decoded Err macroblock_outcome (λ a. refl) (λ e. refl)

module _ (d : List ℕ) (at : ℕ) (h : MacroblockHeader) (dc_coded rev : Bool) (x : MacroblockTextureContext) (p : BlockPredictors) (w : List (List ℕ)) where
  state-told : (room : ℕ) → Told fine Err (state_of d at h x p w room)
  unfolding state_of
  state-told room = first_told (tests_of d at x p w ++ ((leb 384 room, TooShort) ∷ header_tests h)) (tt, (tt, (tt, (tt, (tt, (tt, tt))))))

  pub macroblock-told : (old : List ℤ) → Told decoded Err (macroblock_answer d at h dc_coded rev x p w old)
  unfolding macroblock_answer
  macroblock-told old =
      let y = sentence_of d at h dc_coded rev in
      after-told decoded Err (λ (k : Result ⊤ BlockAssemblyError). answer_by k (told d at y)) (λ e. refl)
      (read_told decoded Err (told d at) (λ s r. taken (_, (_, _)) refl) (λ e. refl) y (sentence_by_bits d at h dc_coded rev))
      (state_of d at h x p w (length old)) (state-told (length old))

-- ---- a whole macroblock

-- what is read of it is refused by 1 to 8, 16 or 17
pub whole_by_bits : (dc_coded rev : Bool) (b : Bits) → ByBits (read_whole dc_coded rev b)
whole_by_bits dc_coded rev b = then (read_header b) _ (header_by_bits b) (λ h r. then (read_macroblock dc_coded rev (pattern_in h) r) _ (macroblock_by_bits dc_coded rev (pattern_in h) r) (λ s r. tt))

abbrev pub wholly : ℕ × (ℕ × (Spellings × HeaderFields)) → Result WholeDecoded BlockAssemblyError
wholly a = Ok (record { bits = a.0; next = cursor_at a.1.0; spellings = a.1.1.0; fields = a.1.1.1 })

pub whole_apart : (r s : Result WholeDecoded BlockAssemblyError) → Told wholly Err r → Told wholly Err s → whole_outcome r ≡ whole_outcome s → r ≡ s
whole_apart = answers-apart wholly Err whole_outcome (λ a. refl) (λ e. refl)

pub whole-told : (d : List ℕ) (at : ℕ) (dc_coded rev : Bool) (x : MacroblockTextureContext) (p : BlockPredictors) (w : List (List ℕ)) (old : List ℤ) → Told wholly Err (whole_answer d at dc_coded rev x p w old)
unfolding whole_answer whole_of room_of
whole-told d at dc_coded rev x p w old =
    after-told wholly Err (λ (k : Result ⊤ BlockAssemblyError). whole_by k (whole_told d at x.quantiser_scale (whole_of d at dc_coded rev))) (λ e. refl)
    (read_told wholly Err (whole_told d at x.quantiser_scale) (λ m r. taken (_, (_, (_, _))) refl) (λ e. refl) (whole_of d at dc_coded rev) (whole_by_bits dc_coded rev (bits_from d at)))
    (room_of d at x p w (length old)) (first_told (tests_of d at x p w ++ ((leb 384 (length old), TooShort) ∷ [])) (tt, (tt, (tt, (tt, tt)))))
