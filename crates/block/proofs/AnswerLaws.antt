-- That nothing after a block's reading can go wrong: its places may be handed in, and its values lie within the depth's limits. Assumes nothing.
use mathlib.Core.Bool.{Bool, cond, false, not, true}
use mathlib.Core.List.{List}
use mathlib.Core.Path.{◌≡◌, ap, ◌∙◌}
use Prim.Native.Nat.{ℕ, ◌+◌, ◌≤◌}
use lib.IntN.{nat_abs, pos, ℤ}
use Rattle.bits.specs.declared.cursor.Cursor.{Cursor}
use Rattle.codes.specs.declared.dc_size.DcComponent.{DcComponent}
use Rattle.coefficients.proofs.BlockTests.{test_all}
use Rattle.coefficients.proofs.RefusalLaws.{places-fine}
use Rattle.events.specs.declared.spelling.Spellings.{Spellings}
use Rattle.inverse_quant.proofs.LimitLaws.{Limited, dequantised1-limited, dequantised1_small, dequantised1-square, dequantised2-limited, dequantised2_small, dequantised2-square}
use Rattle.inverse_quant.specs.Dequantised.{dequantised1, dequantised2}
use Rattle.coefficients.specs.Level.{places_fine}
use Rattle.idct.specs.Limits.{in_bounds, values_fine}
use Rattle.numbers.specs.Grid.{cell}
use Rattle.ranges.proofs.RangeLaws.{depth_range, within_of}
use Rattle.ranges.specs.Range.{depth_fine, highest, lowest}
use Rattle.sentences.specs.Macroblock.{GoodBlock, Parts, Place}
use Rattle.block_reader.proofs.PlaceLaws.{good-places as in_range}
use Rattle.block_reader.proofs.SentenceLaws.{Sentence}
use Rattle.block_reader.specs.Reading.{qfs_of}
use Rattle.assembly.specs.Values.{quant_of, values_of}
use Rattle.assembly.specs.declared.context.MacroblockTextureContext.{MacroblockTextureContext}

-- ---- the places of a good block may be handed in

pub good-places : (rev dc_coded : Bool) (s : Place) (p : Parts) → GoodBlock dc_coded rev s p → places_fine (qfs_of s.0 dc_coded p) ≡ true
good-places rev dc_coded s p g = let r = in_range rev dc_coded s p g in places-fine (qfs_of s.0 dc_coded p) r.long r.first (λ k a b. r.later k a)

pub sentence_fine : {d : List ℕ} {at : ℕ} {m : DcComponent} {coded dc_coded rev : Bool} {qfs : List ℤ} {next : Cursor} {n : Spellings} → Sentence d at m coded dc_coded rev qfs next n → places_fine qfs ≡ true
sentence_fine {m = m} {coded = coded} {dc_coded = dc_coded} {rev = rev} s = ap places_fine s.qfs-is ∙ good-places rev dc_coded (m, coded) s.parts s.good

-- ---- the values lie within the depth's limits

module _ (c : DcComponent) (x : MacroblockTextureContext) (w : List (List ℕ)) (qf : List (List ℤ)) where
  abbrev d : ℕ
  d = x.bits_per_pixel

  limits : (z : ℤ) → Limited d z → in_bounds (d + 3) z ≡ true
  limits z l = within_of (lowest (d + 3)) (highest (d + 3)) z l.low l.high

  pub values-fine : values_fine d (values_of c x w qf) ≡ true
  values-fine = go x.quant_type
    where
      go : (t : Bool) → values_fine d (cond t (dequantised1 (not x.intra_mismatch_exempt) (quant_of c x) w qf) (dequantised2 (quant_of c x) qf)) ≡ true
      go true = test_all (in_bounds (d + 3)) (pos 0) _ (dequantised1-square (not x.intra_mismatch_exempt) (quant_of c x) w qf) (λ v u a b. limits _ (dequantised1-limited (not x.intra_mismatch_exempt) (quant_of c x) w qf v u a b))
      go false = test_all (in_bounds (d + 3)) (pos 0) _ (dequantised2-square (quant_of c x) qf) (λ v u a b. limits _ (dequantised2-limited (quant_of c x) qf v u a b))

  pub values_small : depth_fine d ≡ true → nat_abs (cell (values_of c x w qf) 0 0) ≤ 32768
  values_small h = go x.quant_type
    where
      most : d ≤ 12
      most = (depth_range d h).1

      go : (t : Bool) → nat_abs (cell (cond t (dequantised1 (not x.intra_mismatch_exempt) (quant_of c x) w qf) (dequantised2 (quant_of c x) qf)) 0 0) ≤ 32768
      go true = dequantised1_small (not x.intra_mismatch_exempt) (quant_of c x) w qf most 0 0
      go false = dequantised2_small (quant_of c x) qf most 0 0
