-- A block whose state is fine is accepted exactly when its bits begin with a sentence, and its whole numbers are near the exact transform of the sentence's values. Assumes nothing.
use mathlib.Core.Bool.{Bool, true}
use mathlib.Core.List.{List}
use mathlib.Core.Logic.{◌↔◌}
use mathlib.Core.Path.{◌≡◌, ap, refl}
use Prim.Native.Nat.{ℕ, ◌<◌}
use native.Mathlib.Omega.{arith}
use lib.IntN.{ℤ}
use Rattle.bits.specs.Bits.{Bits, bits_from}
use Rattle.bits.specs.declared.cursor.Cursor.{Cursor}
use Rattle.codes.specs.declared.dc_size.DcComponent.{DcComponent}
use Rattle.prediction.specs.declared.predictor.BlockPredictors.{BlockPredictors}
use Rattle.idct.proofs.Refusals.{taken-near}
use Rattle.exact_transform.specs.Exact.{Near, exact}
use Rattle.exact_transform.specs.Transform.{whole}
use Rattle.sentences.proofs.Sentences.{block_sentences}
use Rattle.events.specs.Event.{◌▸◌}
use Rattle.sentences.specs.Macroblock.{GoodBlock, Parts, block_bits}
use Rattle.sentences.specs.MacroblockReader.{read_block}
use Rattle.events.specs.declared.spelling.Spellings.{Spellings}
use Rattle.fields.specs.Reader.{Res, ok, no}
use Rattle.block.proofs.AnswerLaws.{values-fine}
use Rattle.assembly.proofs.ContextLaws.{depth-fine}
use Rattle.block.specs.Decoded.{levels_in, told, values_in}
use Rattle.assembly.specs.Values.{context_fine}
use Rattle.assembly.specs.declared.context.MacroblockTextureContext.{MacroblockTextureContext}
use Rattle.std.specs.Prelude.{Ok}

module _ (d : List ℕ) (at : ℕ) (c : DcComponent) (coded dc_coded rev : Bool) (x : MacroblockTextureContext) (p : BlockPredictors) (w : List (List ℕ)) where
  abbrev read : Res Parts
  read = read_block dc_coded rev (c, coded) (bits_from d at)

  decoded-read : (y : Res Parts) (z : ℤ) (n : Cursor) (k : Spellings) → told d c dc_coded x p w y ≡ Ok (record { dc = z; next = n; spellings = k }) → (s : Parts) × ((r : Bits) × (y ≡ ok s r))
  decoded-read (ok s r) z n k q = (s, (r, refl))
  decoded-read (no e) z n k q = absurd (let z : ◌≡◌ {A = ℕ} 0 1 = cc in omega arith)

  pub accepted : ((z : ℤ) × ((n : Cursor) × ((k : Spellings) × (told d c dc_coded x p w read ≡ Ok (record { dc = z; next = n; spellings = k })))))
      ↔ ((s : Parts) × (GoodBlock dc_coded rev (c, coded) s × ((r : Bits) × (bits_from d at ≡ block_bits (c, coded) s ▸ r))))
  accepted = (
    λ q. ((block_sentences dc_coded rev (c, coded)).accepted (bits_from d at)).0 (decoded-read read q.0 q.1.0 q.1.1.0 q.1.1.1),
    λ q. let r = ((block_sentences dc_coded rev (c, coded)).accepted (bits_from d at)).1 q in (_, (_, (_, ap (told d c dc_coded x p w) r.1.1))),
  )

  pub near : context_fine x w ≡ true → (s : Parts) (y u : ℕ) → y < 8 → u < 8
      → Near (whole x.idct_rounding (values_in d c dc_coded x p w s) y u) (exact (values_in d c dc_coded x p w s) y u)
  near h s y u ly lu =
      taken-near x.bits_per_pixel (values_in d c dc_coded x p w s) (depth-fine x w h) (values-fine c x w (levels_in d c dc_coded x p w s)) x.idct_rounding y u ly lu
