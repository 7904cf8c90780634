-- `inverse_quant::row::row_zero` meets its contract, one number a turn: whether those so far are 0, with those that are left. Assumes nothing.
use Rattle.std.proofs.Common.{Bool, Fits, FitsSigned, ap, bit_or, drop, nat_eq, of_z, pos, refl, rules, slice_index_or, sym, w32, ℕ, ◌&&◌, ◌+◌, ◌∙◌}
use native.Mathlib.Omega.{arith}
use Rattle.std.proofs.lemmas.Nat.{or_of_32}
use mir.Facts.{Fits-of_z, of_z-to_z}
use Rattle.numbers.specs.Every.{every}
use Rattle.numbers.proofs.EveryLaws.{test_done, test_more}
use Rattle.inverse_quant.specs.ByRows.{is_zero}
use Rattle.inverse_quant.proofs.ZeroLaws.{bits-zero, or-zero}
use Rattle.inverse_quant.proofs.row.row_zero.Goals as goal

module _ (c : goal.After-some-1) where
  fits_next : FitsSigned w32 (slice_index_or c.args.row c.loop-x.x-index (pos 0))
  fits_next = search rules

  fits_or : Fits w32 (bit_or c.loop-x.some-bits (of_z w32 (slice_index_or c.args.row c.loop-x.x-index (pos 0))))
  fits_or = record { fits = or_of_32 _ _ c.loop-x.auto.some.fits (Fits-of_z fits_next).fits }

pub loop-x-init : goal.loop-x-init
loop-x-init c = refl

pub loop-x-preserved : goal.loop-x-preserved
loop-x-preserved c =
    let r = c.args.row in
    let u = c.loop-x.x-index in
    let b = c.loop-x.some-bits in
    let z = slice_index_or r u (pos 0) in
    let so_far = c.loop-x.invariant ∙ ap (λ (n : ℕ). nat_eq n 0 && every is_zero (drop u r)) (of_z-to_z c.loop-x.auto.some) in
    test_more is_zero (pos 0) r (every is_zero r) u (nat_eq b 0) (nat_eq (of_z w32 z) 0) (omega arith) so_far (bits-zero z (fits_next c))
    ∙ ap (λ (t : Bool). t && every is_zero (drop (u + 1) r)) (or-zero b (of_z w32 z) ∙ ap (λ (n : ℕ). nat_eq n 0) (sym (of_z-to_z (fits_or c))))

pub returns : goal.returns
returns c =
    let r = c.args.row in
    let l = c.loop-x in
    let told = l.invariant ∙ ap (λ (n : ℕ). nat_eq n 0 && every is_zero (drop l.x-index r)) (of_z-to_z l.auto.some) in
    test_done is_zero (pos 0) r (every is_zero r) l.x-index (nat_eq l.some-bits 0) (omega arith) told
