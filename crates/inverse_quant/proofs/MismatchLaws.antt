-- Mismatch control (7.4.4.5) changes value (7, 7) of a block alone or none, and leaves an odd sum. Assumes nothing.
use mathlib.Core.Bool.{Bool, true, false, cond}
use mathlib.Core.List.{List, []}
use mathlib.Core.Path.{◌≡◌, refl, sym}
use Prim.Native.Nat.{ℕ, ◌%◌}
use native.Mathlib.Omega.{arith}
use lib.IntN.{ℤ, pos, nat_abs, ◌+ℤ◌, ◌-ℤ◌}
use lib.ListN.{get_or, set}
use Rattle.numbers.specs.Grid.{cell, cell_n}
use Rattle.numbers.proofs.Integers.{halves, nat, told≡, var, ◌⊕◌, ◌⊝◌}
use Rattle.mismatch.specs.Mismatch.{even, flipped, mismatched, sum_of}
use Rattle.mismatch.proofs.ParityLaws.{even-rem, odd-rem}
use Rattle.scan.proofs.BlockLaws.{Square, block_same, block-set, square-block}
use Rattle.dequantise.specs.declared.context.InverseQuantContext.{InverseQuantContext}
use Rattle.inverse_quant.specs.Dequantised.{dequantised1, f_prime1, value_of1}
use Rattle.inverse_quant.proofs.BlockSums.{sum-changed}

-- where the sum is even, value (7, 7) alone changes, and else none
pub mismatched-even : (f : List (List ℤ)) → Square f → even (sum_of f) ≡ true → mismatched f ≡ set f 7 (set (get_or f 7 []) 7 (flipped (cell f 7 7)))
mismatched-even f s e = rw e (sym (block-set f s (λ (v u : ℕ). flipped (cell f v u)) 7 7 (omega arith) (omega arith)))

pub mismatched-odd : (f : List (List ℤ)) → Square f → even (sum_of f) ≡ false → mismatched f ≡ f
mismatched-odd f s e = rw e (sym (block_same f s))

-- a flip changes the parity of the sum
flip_odd : (s s' z : ℤ) → nat_abs s % 2 ≡ 0 → (s' +ℤ z) ≡ (s +ℤ flipped z) → nat_abs s' % 2 ≡ 1
flip_odd s s' z p e = go (even z) e
  where
    go : (t : Bool) → (s' +ℤ z) ≡ (s +ℤ cond t (z +ℤ pos 1) (z -ℤ pos 1)) → nat_abs s' % 2 ≡ 1
    go true e = omega (arith, told≡ (var s' ⊕ var z) (var s ⊕ (var z ⊕ nat 1)) e, halves s, halves s')
    go false e = omega (arith, told≡ (var s' ⊕ var z) (var s ⊕ (var z ⊝ nat 1)) e, halves s, halves s')

-- after it the sum is odd
pub mismatched-sum : (f : List (List ℤ)) → Square f → nat_abs (sum_of (mismatched f)) % 2 ≡ 1
mismatched-sum f s = go (even (sum_of f)) refl
  where
    go : (t : Bool) → even (sum_of f) ≡ t → nat_abs (sum_of (mismatched f)) % 2 ≡ 1
    go true e =
        let z = cell f 7 7 in
        rw (mismatched-even f s e)
        (flip_odd (sum_of f) (sum_of (set f 7 (set (get_or f 7 []) 7 (flipped z)))) z (even-rem (sum_of f) e) (sum-changed f s 7 7 (omega arith) (omega arith) (flipped z)))
    go false e = rw (mismatched-odd f s e) (odd-rem (sum_of f) e)

pub dequantised1-odd : (ctx : InverseQuantContext) (w : List (List ℕ)) (qf : List (List ℤ)) → nat_abs (sum_of (dequantised1 true ctx w qf)) % 2 ≡ 1
unfolding dequantised1
dequantised1-odd ctx w qf = mismatched-sum (f_prime1 ctx w qf) (square-block (λ (v u : ℕ). value_of1 ctx v u (cell qf v u) (cell_n w v u)))
