-- Each constant is the fraction that the specification says. Assumes nothing.
use mathlib.Core.Bool.{Bool, true, false, not, cond}
use Prim.Native.Nat.{ℕ, zero, suc, ◌+◌, ◌-◌, ◌*◌, ◌^◌, ◌≤◌, ◌<◌}
use native.Mathlib.Nat.{mod-lt}
use native.Mathlib.Omega.{arith}
use lib.Dec.{T, leb, eqb, leb→le, nleb→lt, lit<}
use lib.Ieee.{nan, binary64, of_bits, neg}
use lib.IntN.{pos, neg_ℤ}
use lib.ListN.{get_or}
use Rattle.f64_error.proofs.Constants.{const_of, const_neg}
use Rattle.f64_error.proofs.Approx.{Const}
use Rattle.cosines.specs.Cosines.{cosines, numerators, turn, by_turn_f, by_turn_z, cos_f, cos_z, c_f, c_z}

entry : (k : ℕ) → k < 9 → Const (get_or cosines k nan) (2 ^ 55) (pos (get_or numerators k 0))
unfolding of_bits
entry zero h = const_of (of_bits binary64 0x3ff0000000000000) (pos 36028797018963968) tt
entry (suc zero) h = const_of (of_bits binary64 0x3fef6297cff75cb0) (pos 35336513786835648) tt
entry (suc (suc zero)) h = const_of (of_bits binary64 0x3fed906bcf328d46) (pos 33286268146824472) tt
entry (suc (suc (suc zero))) h = const_of (of_bits binary64 0x3fea9b66290ea1a3) (pos 29956849889085068) tt
entry (suc (suc (suc (suc zero)))) h = const_of (of_bits binary64 0x3fe6a09e667f3bcd) (pos 25476206690103092) tt
entry (suc (suc (suc (suc (suc zero))))) h = const_of (of_bits binary64 0x3fe1c73b39ae68c8) (pos 20016527155241760) tt
entry (suc (suc (suc (suc (suc (suc zero)))))) h = const_of (of_bits binary64 0x3fd87de2a6aea963) (pos 13787623707202246) tt
entry (suc (suc (suc (suc (suc (suc (suc zero))))))) h = const_of (of_bits binary64 0x3fc8f8b83c69a60b) (pos 7028869612283403) tt
entry (suc (suc (suc (suc (suc (suc (suc (suc zero)))))))) h = const_of (of_bits binary64 0) (pos 0) tt
entry (suc (suc (suc (suc (suc (suc (suc (suc (suc k))))))))) h = absurd (omega arith)

module _ (m : ℕ) (h : m < 32) where
  by_turn : Const (by_turn_f m) (2 ^ 55) (by_turn_z m)
  unfolding by_turn_f by_turn_z
  by_turn = one (leb m 8) (leb m 16) (leb m 24) (leb→le m 8) (nleb→lt m 8) (leb→le m 16) (nleb→lt m 16) (leb→le m 24) (nleb→lt m 24)
    where
      one : (a b c : Bool) → (T a → m ≤ 8) → (T (not a) → 8 < m) → (T b → m ≤ 16) → (T (not b) → 16 < m) → (T c → m ≤ 24) → (T (not c) → 24 < m)
          → Const (cond a (get_or cosines m nan) (cond b (neg (get_or cosines (16 - m) nan)) (cond c (neg (get_or cosines (m - 16) nan)) (get_or cosines (32 - m) nan)))) (2 ^ 55)
          (cond a (pos (get_or numerators m 0)) (cond b (neg_ℤ (pos (get_or numerators (16 - m) 0))) (cond c (neg_ℤ (pos (get_or numerators (m - 16) 0))) (pos (get_or numerators (32 - m) 0)))))
      one true b c a1 a0 b1 b0 c1 c0 = let l = a1 tt in entry m (omega arith)
      one false true c a1 a0 b1 b0 c1 c0 =
          let l = a0 tt in
          let g = b1 tt in
          const_neg (get_or cosines (16 - m) nan) (2 ^ 55) (pos (get_or numerators (16 - m) 0)) (entry (16 - m) (omega arith))
      one false false true a1 a0 b1 b0 c1 c0 =
          let l = b0 tt in
          let g = c1 tt in
          const_neg (get_or cosines (m - 16) nan) (2 ^ 55) (pos (get_or numerators (m - 16) 0)) (entry (m - 16) (omega arith))
      one false false false a1 a0 b1 b0 c1 c0 = let l = c0 tt in entry (32 - m) (omega arith)

pub cos_const : (u x : ℕ) → Const (cos_f u x) (2 ^ 55) (cos_z u x)
cos_const u x = by_turn (turn u x) (mod-lt ((2 * x + 1) * u) (lit< tt))

pub c_const : (u : ℕ) → Const (c_f u) (2 ^ 55) (c_z u)
unfolding c_f c_z of_bits
c_const u = go (eqb u 0)
  where
    go : (b : Bool) → Const (cond b (of_bits binary64 0x3fe6a09e667f3bcd) (of_bits binary64 0x3ff0000000000000)) (2 ^ 55) (cond b (pos 25476206690103092) (pos 36028797018963968))
    go true = const_of (of_bits binary64 0x3fe6a09e667f3bcd) (pos 25476206690103092) tt
    go false = const_of (of_bits binary64 0x3ff0000000000000) (pos 36028797018963968) tt
