-- What a decoded macroblock tells of the lent samples. Assumes nothing.
use mathlib.Core.List.{List}
use mathlib.Core.Path.{◌≡◌, refl}
use Prim.Native.Nat.{ℕ, ◌≤◌}
use native.Mathlib.Omega.{arith}
use lib.IntN.{ℤ}
use lib.ListN.{length}
use Rattle.samples.proofs.LayoutLaws.{samples-long}
use Rattle.sentences.specs.Macroblock.{Parts}
use Rattle.fields.specs.Reader.{Res, no, ok}
use Rattle.macroblock.specs.Answer.{kept_by}
use Rattle.picture.specs.declared.call.PictureDecoded.{PictureDecoded}
use Rattle.picture_state.proofs.StateLaws.{state_first}
use Rattle.picture.specs.Call.{Input, answer_by, answer_out, answer_told, around_here, context_here, samples_out, samples_told, sentence_here, state_here}
use Rattle.picture_state.specs.declared.picture.Picture.{Picture}
use Rattle.std.specs.Prelude.{Err, Ok, Result, ⊤}
use Rattle.assembly.specs.declared.error.BlockAssemblyError.{BlockAssemblyError}

-- a macroblock that is decoded has 384 samples
pub decoded-roomy : (p : Picture) (x : Input) (store : List ℤ) {d : PictureDecoded} → answer_out p x store ≡ Ok d → 384 ≤ length x.samples
unfolding answer_out
decoded-roomy p x store {d} e = go (state_here p x store) refl e
  where
    go : (s : Result ⊤ BlockAssemblyError) → state_here p x store ≡ s → answer_by s (answer_told p x.bytes x.start (sentence_here p x)) ≡ Ok d → 384 ≤ length x.samples
    go (Ok tt) f h = (state_first p x.bytes x.start (context_here p x) x.matrix (length x.samples) (length store) x.header (around_here p x store) f).roomy
    go (Err b) f h = absurd (let z : ◌≡◌ {A = ℕ} 0 1 = cc in omega arith)

-- a call keeps the number of samples
pub samples-length : (p : Picture) (x : Input) (store : List ℤ) → length (samples_out p x store) ≡ length x.samples
unfolding samples_out
samples-length p x store = go (state_here p x store) (sentence_here p x)
  where
    go : (s : Result ⊤ BlockAssemblyError) (y : Res (List Parts))
        → length (kept_by s (samples_told x.header x.context.use_intra_dc_vlc (context_here p x) x.matrix (around_here p x store) y x.samples) x.samples) ≡ length x.samples
    go (Ok tt) (ok t r) = samples-long _ x.samples
    go (Ok tt) (no e) = refl
    go (Err e) y = refl
