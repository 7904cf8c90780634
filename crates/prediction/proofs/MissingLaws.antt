-- A missing neighbour: its DC as the code makes it, and AC values that add nothing. Assumes nothing.
use mathlib.Core.List.{List}
use mathlib.Core.Path.{◌≡◌, sym, ap, ◌∙◌}
use Prim.Native.Nat.{ℕ, ◌+◌, ◌*◌, ◌%◌, ◌^◌, min, ◌≤◌, ◌<◌}
use native.Mathlib.Omega.{arith}
use lib.IntN.{ℤ, pos, ◌+ℤ◌, +ℤ_idr}
use lib.ListN.{length, get_or}
use lib.Pow.{pow_mono}
use mir.Facts.{to_z_pos}
use mir.Syntax.{w32}
use mir.Val.{to_z}
use Rattle.numbers.specs.Grid.{build}
use Rattle.numbers.proofs.Fill.{is-build}
use Rattle.numbers.proofs.Words.{one_shl}
use Rattle.prediction.specs.Prediction.{default_dc}

-- a shift of 1, as the code has it
pub missing_shifted : (b : ℕ) → b < 12 → to_z w32 (1 * 2 ^ (b + 2) % 4294967296) ≡ default_dc (min b 12)
missing_shifted b h =
    let l : 2 ^ (b + 2) ≤ 2 ^ 14 = pow_mono {i = b + 2} {j = 14} (omega arith) in
    let m : b ≡ min b 12 = omega arith in
    ap (to_z w32) (one_shl w32 (b + 2) (omega arith)) ∙ to_z_pos w32 (omega arith) ∙ ap default_dc m

pub missing_deepest : (b : ℕ) → 12 ≤ b → pos 16384 ≡ default_dc (min b 12)
missing_deepest b h = let m : 12 ≡ min b 12 = omega arith in ap default_dc m

pub missing_adds_nothing : (l : List ℤ) → length l ≡ 7 → l ≡ build 7 (λ (k : ℕ). get_or l k (pos 0) +ℤ pos 0)
missing_adds_nothing l e = is-build (pos 0) l 7 (λ (k : ℕ). get_or l k (pos 0) +ℤ pos 0) e (λ (k : ℕ) (h : k < 7). sym (+ℤ_idr (get_or l k (pos 0))))
