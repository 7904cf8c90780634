-- What is read of a record: its quantiser, and a block of it in the store. Assumes nothing.
use mathlib.Core.Bool.{true, false}
use mathlib.Core.List.{List}
use mathlib.Core.Path.{◌≡◌, refl, ap, sym, ◌∙◌}
use Prim.Native.Nat.{ℕ, ◌+◌, ◌*◌, ◌<◌, ◌≤◌}
use native.Mathlib.Nat.{not-suc-le-zero}
use native.Mathlib.Omega.{arith}
use lib.Dec.{T}
use lib.IntN.{ℤ, pos, negsuc, nat_abs}
use lib.ListN.{drop, get_or, length, get_or-eq_default}
use lib.Seq.{get_or-drop}
use lib.Signed.{lt_z, non_neg}
use mir.Syntax.{w32}
use mir.Val.{SFits, Fits}
use borrow.Author.Tests.{ltb-true}
use Rattle.numbers.specs.Grid.{build}
use Rattle.numbers.proofs.Fill.{build-eq}
use Rattle.record.specs.Record.{quantiser_of, record_at, seven_from, known_of}
use Rattle.record.specs.declared.record.Side.{Side}
use Rattle.record.proofs.RecordLaws.{record_at_lem, record_seven}

-- ---- a stored quantiser

pub quantiser-negative : (z : ℤ) → lt_z z (pos 0) ≡ true → 0 ≡ quantiser_of z
quantiser-negative (pos n) e = let h = ltb-true n 0 e in absurd (not-suc-le-zero {n = n} (omega arith))
quantiser-negative (negsuc n) e = refl

pub quantiser-is : (z : ℤ) → lt_z z (pos 0) ≡ false → nat_abs z ≡ quantiser_of z
quantiser-is (pos n) e = refl
quantiser-is (negsuc n) e = let z : ◌≡◌ {A = ℕ} 0 1 = cc in absurd (not-suc-le-zero {n = 0} (omega arith))

pub quantiser_fits : (z : ℤ) → SFits w32 z → lt_z z (pos 0) ≡ false → T (non_neg z) × Fits w32 (nat_abs z)
quantiser_fits (pos n) f e = (tt, record { fits = omega (arith, f.sfits) })
quantiser_fits (negsuc n) f e = let z : ◌≡◌ {A = ℕ} 0 1 = cc in absurd (not-suc-le-zero {n = 0} (omega arith))

-- ---- seven numbers of the store

-- past its end they are 0
pub seven_past : (s : List ℤ) (at : ℕ) → length s ≤ at → build 7 (λ (k : ℕ). pos 0) ≡ seven_from s at
seven_past s at h = build-eq 7 (λ (k : ℕ). pos 0) (λ (k : ℕ). get_or s (at + k) (pos 0)) (λ (k : ℕ) (p : k < 7). sym (get_or-eq_default s (pos 0) (omega arith)))

-- seven of what stands from a place on
pub seven-from : (s : List ℤ) (at m : ℕ) → seven_from (drop at s) m ≡ seven_from s (at + m)
seven-from s at m =
    build-eq 7 (λ (k : ℕ). get_or (drop at s) (m + k) (pos 0)) (λ (k : ℕ). get_or s (at + m + k) (pos 0))
    (λ (k : ℕ) (p : k < 7).
    let e : at + (m + k) ≡ at + m + k = omega arith in
    get_or-drop at s (m + k) (pos 0) ∙ ap (λ (j : ℕ). get_or s j (pos 0)) e)

-- ---- block b of what stands in the store from a place on

pub known_is : (s : List ℤ) (at b : ℕ) {dc : ℤ} {qp : ℕ} {row column : List ℤ}
    → dc ≡ get_or s (at + 15 * b) (pos 0)
    → qp ≡ quantiser_of (get_or s (at + 90) (pos 0))
    → row ≡ seven_from s (at + 15 * b + 1)
    → column ≡ seven_from s (at + 15 * b + 8)
    → ◌≡◌ {A = Side} (record { has = true; dc = dc; qp = qp; row = row; column = column }) (known_of (drop at s) b)
known_is s at b e₁ e₂ e₃ e₄ =
    let f₁ = e₁ ∙ sym (get_or-drop at s (15 * b) (pos 0)) in
    let f₂ = e₂ ∙ ap quantiser_of (sym (get_or-drop at s 90 (pos 0))) in
    let g₃ : at + 15 * b + 1 ≡ at + (15 * b + 1) = omega arith in
    let g₄ : at + 15 * b + 8 ≡ at + (15 * b + 8) = omega arith in
    let f₃ = e₃ ∙ ap (seven_from s) g₃ ∙ sym (seven-from s at (15 * b + 1)) in
    let f₄ = e₄ ∙ ap (seven_from s) g₄ ∙ sym (seven-from s at (15 * b + 8)) in
    λ i. record { has = true; dc = f₁ i; qp = f₂ i; row = f₃ i; column = f₄ i }

-- of the six blocks, it is that of the record there
pub known_here : (s : List ℤ) (at b : ℕ) → b < 6 → known_of (drop at s) b ≡ known_of (record_at s at) b
known_here s at b h =
    let e₁ = get_or-drop at s (15 * b) (pos 0) ∙ sym (record_at_lem s at (15 * b) (omega arith)) in
    let e₂ = ap quantiser_of (get_or-drop at s 90 (pos 0) ∙ sym (record_at_lem s at 90 (omega arith))) in
    let e₃ = seven-from s at (15 * b + 1) ∙ sym (record_seven s at (15 * b + 1) (omega arith)) in
    let e₄ = seven-from s at (15 * b + 8) ∙ sym (record_seven s at (15 * b + 8) (omega arith)) in
    λ i. record { has = true; dc = e₁ i; qp = e₂ i; row = e₃ i; column = e₄ i }
