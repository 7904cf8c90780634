-- The outcome of a block tells its answer. Assumes nothing.
use mathlib.Core.Bool.{Bool}
use mathlib.Core.List.{List}
use mathlib.Core.Path.{◌≡◌, refl}
use Prim.Native.Nat.{ℕ}
use lib.IntN.{ℤ}
use Rattle.bits.specs.Bits.{bits_from}
use Rattle.bits.specs.Cursor.{cursor_at}
use Rattle.codes.specs.Component.{component_at, component_of}
use Rattle.prediction.specs.declared.predictor.BlockPredictors.{BlockPredictors}
use Rattle.events.specs.declared.spelling.Spellings.{Spellings}
use Rattle.sentences.proofs.ByBits.{block_by_bits}
use Rattle.sentences.specs.MacroblockReader.{read_block}
use Rattle.assembly.proofs.Apart.{Told, after-told, answers-apart, check_told, failed, first_told, read_told, taken}
use Rattle.assembly.specs.Answer.{check_of, first_bad}
use Rattle.block.specs.Decoded.{answer_of, block_answer, told}
use Rattle.block.specs.Outcomes.{block_outcome}
use Rattle.block.specs.Rebuilt.{dc_here, rebuild_tests, rebuilt_answer, rebuilt_by, rebuilt_outcome}
use Rattle.assembly.specs.declared.context.MacroblockTextureContext.{MacroblockTextureContext}
use Rattle.assembly.specs.declared.error.BlockAssemblyError.TheVariants.{OutOfRange}
use Rattle.std.specs.Prelude.{Err, None, Ok, Option, Result, Some, ⊤}
use Rattle.codes.specs.declared.dc_size.DcComponent.{DcComponent}
use Rattle.assembly.specs.declared.error.BlockAssemblyError.{BlockAssemblyError}
use Rattle.block.specs.declared.intra.BlockDecoded.{BlockDecoded}

abbrev pub decoded : ℤ × (ℕ × Spellings) → Result BlockDecoded BlockAssemblyError
decoded a = Ok (record { dc = a.0; next = cursor_at a.1.0; spellings = a.1.1 })

pub block_apart : (r s : Result BlockDecoded BlockAssemblyError) → Told decoded Err r → Told decoded Err s → block_outcome r ≡ block_outcome s → r ≡ s
block_apart = answers-apart decoded Err block_outcome (λ a. refl) (λ e. refl)

pub block-told : (d : List ℕ) (at : ℕ) (coded dc_coded rev : Bool) (x : MacroblockTextureContext) (p : BlockPredictors) (w : List (List ℕ)) (i : ℕ)
    → Told decoded Err (block_answer d at coded dc_coded rev x p w i)
block-told d at coded dc_coded rev x p w i = go (component_of i)
  where
    go : (m : Option DcComponent) → Told decoded Err (answer_of d at coded dc_coded rev x p w m (check_of d at x p w))
    go None = failed OutOfRange tt refl
    go (Some c) =
        after-told decoded Err (answer_of d at coded dc_coded rev x p w (Some c)) (λ e. refl)
        (read_told decoded Err (told d c dc_coded x p w) (λ s r. taken (_, (_, _)) refl) (λ e. refl) (read_block dc_coded rev (c, coded) (bits_from d at)) (block_by_bits dc_coded rev (c, coded) (bits_from d at)))
        (check_of d at x p w) (check_told d at x p w)

pub rebuilt_apart : (r s : Result ℤ BlockAssemblyError) → Told Ok Err r → Told Ok Err s → rebuilt_outcome r ≡ rebuilt_outcome s → r ≡ s
rebuilt_apart = answers-apart Ok Err rebuilt_outcome (λ a. refl) (λ e. refl)

pub rebuilt_told : (i : ℕ) (x : MacroblockTextureContext) (p : BlockPredictors) (w : List (List ℕ)) (qfs : List ℤ) → Told Ok Err (rebuilt_answer i x p w qfs)
rebuilt_told i x p w qfs =
    let dc = dc_here (component_at i) x p w qfs in
    after-told Ok Err (λ (k : Result ⊤ BlockAssemblyError). rebuilt_by k dc) (λ e. refl) (taken dc refl) (first_bad (rebuild_tests i x p w qfs)) (first_told (rebuild_tests i x p w qfs) (tt, (tt, (tt, tt))))
