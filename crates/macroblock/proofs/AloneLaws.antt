-- A macroblock read alone: its answer, its samples, demand 3 and what is told where its sentence breaks off, by what the state and the reader say. Assumes nothing.
use mathlib.Core.Bool.{Bool}
use mathlib.Core.List.{List, ◌++◌, ◌∷◌}
use mathlib.Core.Path.{◌≡◌, ap, ap₂, refl, subst, subst⁻¹, sym, ◌∙◌}
use Prim.Native.Nat.{ℕ, ◌+◌, ◌-◌}
use native.Mathlib.Omega.{arith}
use lib.Dec.{leb}
use lib.IntN.{ℤ}
use lib.ListN.{length}
use Rattle.numbers.specs.Outcome.{checked}
use Rattle.bits.proofs.CursorLaws.{in_data_yes}
use Rattle.bits.specs.Cursor.{cursor_at, in_data}
use Rattle.bits.specs.declared.cursor.Cursor.{Cursor}
use Rattle.coefficients.specs.Level.{predictors_fine}
use Rattle.prediction.specs.declared.predictor.BlockPredictors.{BlockPredictors}
use Rattle.fields.specs.Answer.{after}
use Rattle.events.specs.declared.spelling.Spellings.{Spellings}
use Rattle.sentences.proofs.CountLaws.{counts_in}
use Rattle.sentences.proofs.Sentences.{macroblock_sentences}
use Rattle.sentences.specs.Macroblock.{GoodMacroblock, Parts, macroblock_bits}
use Rattle.sentences.specs.MacroblockReader.{read_macroblock}
use Rattle.fields.specs.Reader.{Res, no, ok}
use Rattle.fields.specs.Stopped.{Stops}
use Rattle.assembly.proofs.OutcomeLaws.{answered, read_by}
use Rattle.assembly.proofs.ContextLaws.{depth-fine}
use Rattle.assembly.specs.Answer.{tests_of}
use Rattle.block_reader.specs.Rows.{rows_of}
use Rattle.assembly.specs.Values.{context_fine}
use Rattle.assembly.specs.declared.context.MacroblockTextureContext.{MacroblockTextureContext}
use Rattle.assembly.specs.declared.error.BlockAssemblyError.{BlockAssemblyError}
use Rattle.assembly.specs.declared.error.BlockAssemblyError.TheVariants.{TooShort}
use Rattle.macroblock.proofs.DemandLaws.{Call, demand, stopped_of}
use Rattle.macroblock.proofs.SixLaws.{values_six_fine}
use Rattle.macroblock.proofs.StateLaws.{StateFine, state-fine}
use Rattle.macroblock.specs.Alone.{Accepted, DemandAlone, Stopped, StoppedAlone, Told}
use Rattle.macroblock.specs.Answer.{answer_by, kept_by, macroblock_answer, samples_out, samples_told, sentence_of, state_of, told, values_alone}
use Rattle.headers.specs.Fields.{header_tests, pattern_by}
use Rattle.headers.specs.Outcomes.{header_numbers}
use Rattle.macroblock.specs.Outcomes.{bits_said, macroblock_due, macroblock_outcome}
use Rattle.headers.specs.declared.header.MacroblockHeader.{MacroblockHeader}
use Rattle.std.specs.Prelude.{Err, Ok, Result, ⊤}
use Rattle.macroblock.specs.declared.decode.MacroblockDecoded.{MacroblockDecoded}

module _ (d : List ℕ) (at : ℕ) (h : MacroblockHeader) (dc_coded rev : Bool) (x : MacroblockTextureContext) (p : BlockPredictors) (w : List (List ℕ)) (old : List ℤ) where
  -- what the public contract says
  abbrev pub Meets : Result MacroblockDecoded BlockAssemblyError → List ℤ → Type 0
  Meets r out =
      (r ≡ macroblock_answer d at h dc_coded rev x p w old)
      × ((out ≡ samples_out d at h dc_coded rev x p w old)
      × (DemandAlone d at h dc_coded rev x p w old r out
      × ((macroblock_outcome r ≡ macroblock_due d at h dc_coded rev x p w (length old)) × StoppedAlone d at h dc_coded rev x p w (length old) r)))

  -- the answer by number
  by_number : {r : Result MacroblockDecoded BlockAssemblyError} → r ≡ macroblock_answer d at h dc_coded rev x p w old → macroblock_outcome r ≡ macroblock_due d at h dc_coded rev x p w (length old)
  unfolding macroblock_answer state_of
  by_number e =
      ap macroblock_outcome e
      ∙ answered macroblock_outcome (λ (k : Result ⊤ BlockAssemblyError). answer_by k (told d at (sentence_of d at h dc_coded rev))) (λ e. refl)
      (tests_of d at x p w ++ ((leb 384 (length old), TooShort) ∷ header_tests h)) (refl, (refl, (refl, (refl, (refl, (refl, tt))))))
      ∙ ap (checked ((in_data (length d) at, 11) ∷ (context_fine x w, 12) ∷ (predictors_fine p, 13) ∷ (leb 384 (length old), 14) ∷ header_numbers h))
      (read_by macroblock_outcome (told d at) (bits_said at) d (λ a r. refl) (λ e. refl) (sentence_of d at h dc_coded rev))

  pub refused : {e : BlockAssemblyError} → state_of d at h x p w (length old) ≡ Err e → Meets (Err e) old
  unfolding macroblock_answer samples_out
  refused {e} q =
      let a = sym (ap (λ (s : Result ⊤ BlockAssemblyError). answer_by s (told d at (sentence_of d at h dc_coded rev))) q) in (
        a,
        (
          sym (ap (λ (s : Result ⊤ BlockAssemblyError). kept_by s (samples_told h dc_coded x p w (sentence_of d at h dc_coded rev) old) old) q),
          (λ f. absurd (let z : ◌≡◌ {A = ℕ} 0 1 = cc in omega arith), (by_number a, λ f. absurd (let z : ◌≡◌ {A = ℕ} 0 1 = cc in omega arith))),
        ),
      )

  module _ (q : state_of d at h x p w (length old) ≡ Ok tt) (r : Result MacroblockDecoded BlockAssemblyError) (out : List ℤ)
      (e : r ≡ told d at (sentence_of d at h dc_coded rev)) (f : out ≡ samples_told h dc_coded x p w (sentence_of d at h dc_coded rev) old) where
    fine : StateFine d at x p w (length old)
    fine = state-fine d at h x p w (length old) q

    length-is : (n : ℕ) (c : Cursor) (k : Spellings) → c ≡ cursor_at (at + n) → ◌≡◌ {A = Result MacroblockDecoded BlockAssemblyError} (Ok (record { bits = c.bit_pos - at; next = c; spellings = k })) (Ok (record { bits = n; next = cursor_at (at + n); spellings = k }))
    length-is n c counts g =
        let k : c.bit_pos - at ≡ n = let m = ap (λ (y : Cursor). y.bit_pos) g in omega arith in
        ap₂ (λ (m : ℕ) (y : Cursor). Ok (record { bits = m; next = y; spellings = counts })) k g

    call : Call (read_macroblock dc_coded rev (pattern_by h)) d at x (values_alone h dc_coded x p w) (Accepted r) (Told at r) old out
    unfolding sentence_of
    call = record {
      accepts = λ s b g. subst⁻¹ Accepted (e ∙ ap (told d at) g) tt;
      refuses = λ n g a. subst Accepted (e ∙ ap (told d at) g) a;
      tells = λ s b g n k. e ∙ ap (told d at) g ∙ length-is n (after d b) (counts_in s) k;
      writes = λ s b g. f ∙ ap (λ (y : Res (List Parts)). samples_told h dc_coded x p w y old) g;
    }

    -- what stopped the reader is told
    stopped-told : (y : Res (List Parts)) → Stops y → Stopped (told d at y)
    stopped-told (ok s b) k = k
    stopped-told (no n) k = k

    pub whole : Meets r out
    unfolding macroblock_answer samples_out sentence_of
    whole =
        let a = e ∙ sym (ap (λ (s : Result ⊤ BlockAssemblyError). answer_by s (told d at (sentence_of d at h dc_coded rev))) q) in (
          a,
          (
            f ∙ sym (ap (λ (s : Result ⊤ BlockAssemblyError). kept_by s (samples_told h dc_coded x p w (sentence_of d at h dc_coded rev) old) old) q),
            (
              λ _. demand (read_macroblock dc_coded rev (pattern_by h)) d at (macroblock_bits (pattern_by h)) (GoodMacroblock dc_coded rev (pattern_by h)) (macroblock_sentences dc_coded rev (pattern_by h)) x (values_alone h dc_coded x p w) (Accepted r) (Told at r) old out
                  (in_data_yes (length d) at fine.inside).1 (depth-fine x w fine.context) (λ s i l. values_six_fine x p w (rows_of dc_coded (pattern_by h) s) i l) fine.roomy call,
              (by_number a, λ _ s b. subst⁻¹ Stopped e (stopped-told (sentence_of d at h dc_coded rev) (stopped_of d at dc_coded rev (pattern_by h) s b))),
            ),
          ),
        )
