-- Where the DC alone may differ from 0 and is 8k + 4, the exact transform is within 2 ^ -27 of k + 1/2, and the rule decides. Assumes nothing.
use mathlib.Core.Bool.{true}
use mathlib.Core.List.{List}
use mathlib.Core.Path.{◌≡◌, refl, sym, ap, ◌∙◌, subst}
use Prim.Native.Nat.{ℕ, zero, suc, ◌+◌, ◌*◌, ◌%◌, ◌^◌, ◌≤◌, ◌<◌}
use native.Mathlib.Nat.{le_trans, le_refl, le-suc, mul-zero}
use native.Mathlib.Omega.{arith}
use lib.Dec.{lit≤}
use lib.IntN.{ℤ, pos, nat_abs, ◌+ℤ◌, ◌-ℤ◌, ◌*ℤ◌, +ℤ_idl, +ℤ_idr, zero-*ℤ, *ℤ-zero}
use Rattle.numbers.proofs.Integers.{var, ◌⊕◌, ◌⊝◌, ◌⊗◌, ring, *ℤ-assoc}
use Rattle.numbers.proofs.Magnitudes.{abs-mul-le}
use Rattle.numbers.specs.Grid.{cell}
use Rattle.ranges.specs.Range.{depth_fine}
use Rattle.f64_error.specs.Series.{series_z}
use Rattle.idct.proofs.Refusals.{modest}
use Rattle.cosines.specs.Cosines.{by_turn_z, c_z, cos_z}
use Rattle.exact_transform.specs.Exact.{Modest, exact}
use Rattle.idct.specs.Limits.{values_fine}
use Rattle.rounding.specs.Rounding.{tied}
use Rattle.exact_transform.specs.Transform.{whole}
use Rattle.rounding.specs.declared.HalfIntegerRounding.{HalfIntegerRounding}
use Rattle.idct_laws.specs.Ties.{DcAlone, DcHalf, HalfWay}
use Rattle.idct_laws.proofs.Halves.{halves}

-- ---- sums of which one term may differ from 0, or none

first_only : (t : ℕ → ℤ) (n : ℕ) → ((i : ℕ) → i < suc n → 0 < i → t i ≡ pos 0) → series_z t (suc n) ≡ t 0
unfolding series_z
first_only t zero h = +ℤ_idl (t 0)
first_only t (suc n) h =
    (λ j. first_only t n (λ i l p. h i (le_trans l (le-suc (suc n))) p) j +ℤ h (suc n) (le_refl (suc (suc n))) (omega arith) j) ∙ +ℤ_idr (t 0)

none : (t : ℕ → ℤ) (n : ℕ) → ((i : ℕ) → i < n → t i ≡ pos 0) → series_z t n ≡ pos 0
unfolding series_z
none t zero h = refl
none t (suc n) h = λ j. none t n (λ i l. h i (le_trans l (le-suc n))) j +ℤ h n (le_refl (suc n)) j

-- ---- the double sum of a DC alone

cos_0 : (x : ℕ) → cos_z 0 x ≡ pos (2 ^ 55)
unfolding by_turn_z
cos_0 x = ap (λ (m : ℕ). by_turn_z (m % 32)) (mul-zero (2 * x + 1))

zero_term : (a b c d F : ℤ) → F ≡ pos 0 → a *ℤ b *ℤ F *ℤ c *ℤ d ≡ pos 0
zero_term a b c d F e = ap (λ (f : ℤ). a *ℤ b *ℤ f *ℤ c *ℤ d) e ∙ ap (λ (f : ℤ). f *ℤ c *ℤ d) (*ℤ-zero (a *ℤ b)) ∙ ap (λ (f : ℤ). f *ℤ d) (zero-*ℤ c) ∙ zero-*ℤ d

module _ (l : List (List ℤ)) (alone : DcAlone l) where
  abbrev term : ℕ → ℕ → ℕ → ℕ → ℤ
  term y x v u = c_z u *ℤ c_z v *ℤ cell l v u *ℤ cos_z u x *ℤ cos_z v y

  one_term : (y x : ℕ) → exact l y x ≡ c_z 0 *ℤ c_z 0 *ℤ cell l 0 0 *ℤ cos_z 0 x *ℤ cos_z 0 y
  one_term y x =
      first_only (λ v. series_z (term y x v) 8) 7
      (λ v i p. none (term y x v) 8 (λ u j. zero_term (c_z u) (c_z v) (cos_z u x) (cos_z v y) (cell l v u) (alone v u i j (omega arith))))
      ∙ first_only (term y x 0) 7 (λ u j p. zero_term (c_z u) (c_z 0) (cos_z u x) (cos_z 0 y) (cell l 0 u) (alone 0 u (omega arith) j (omega arith)))

  -- C(0) C(0) is 2 ^ 109, and a little more
  dc-exact : (y x : ℕ) → exact l y x ≡ (pos (2 ^ 109) +ℤ pos 88733869546807952) *ℤ cell l 0 0 *ℤ pos (2 ^ 110)
  unfolding c_z
  dc-exact y x =
      one_term y x ∙ ap (λ (c : ℤ). c_z 0 *ℤ c_z 0 *ℤ cell l 0 0 *ℤ c *ℤ cos_z 0 y) (cos_0 x) ∙ ap (λ (c : ℤ). c_z 0 *ℤ c_z 0 *ℤ cell l 0 0 *ℤ pos (2 ^ 55) *ℤ c) (cos_0 y)
      ∙ *ℤ-assoc (c_z 0 *ℤ c_z 0 *ℤ cell l 0 0) (pos (2 ^ 55)) (pos (2 ^ 55))

-- ---- how far that is from a half

parted : (p d F q : ℤ) → (p +ℤ d) *ℤ F *ℤ q ≡ p *ℤ F *ℤ q +ℤ d *ℤ F *ℤ q
parted p d F q = ring ((var p ⊕ var d) ⊗ var F ⊗ var q) (var p ⊗ var F ⊗ var q ⊕ var d ⊗ var F ⊗ var q) (omega arith)

spread : (p q k e f : ℤ) → p *ℤ (e *ℤ k +ℤ f) *ℤ q ≡ k *ℤ (p *ℤ e *ℤ q) +ℤ p *ℤ f *ℤ q
spread p q k e f = summed (e *ℤ k) ∙ ap (λ (t : ℤ). t +ℤ p *ℤ f *ℤ q) (ap (λ (t : ℤ). t *ℤ q) (sym (*ℤ-assoc p e k)) ∙ turned (p *ℤ e))
  where
    summed : (g : ℤ) → p *ℤ (g +ℤ f) *ℤ q ≡ p *ℤ g *ℤ q +ℤ p *ℤ f *ℤ q
    summed g = ring (var p ⊗ (var g ⊕ var f) ⊗ var q) (var p ⊗ var g ⊗ var q ⊕ var p ⊗ var f ⊗ var q) (omega arith)

    turned : (g : ℤ) → g *ℤ k *ℤ q ≡ k *ℤ (g *ℤ q)
    turned g = ring (var g ⊗ var k ⊗ var q) (var k ⊗ (var g ⊗ var q)) (omega arith)

rest : (a b c : ℤ) → a +ℤ b +ℤ c -ℤ a -ℤ b ≡ c
rest a b c = ring (var a ⊕ var b ⊕ var c ⊝ var a ⊝ var b) (var c) (omega arith)

-- what is more than p is what is more than the half
off_half : (p d q k e f F z : ℤ) → F ≡ e *ℤ k +ℤ f → z ≡ (p +ℤ d) *ℤ F *ℤ q → z -ℤ k *ℤ (p *ℤ e *ℤ q) -ℤ p *ℤ f *ℤ q ≡ d *ℤ F *ℤ q
off_half p d q k e f F z g h =
    ap (λ (w : ℤ). w -ℤ k *ℤ (p *ℤ e *ℤ q) -ℤ p *ℤ f *ℤ q) (h ∙ parted p d F q ∙ ap (λ (w : ℤ). w +ℤ d *ℤ F *ℤ q) (ap (λ (t : ℤ). p *ℤ t *ℤ q) g ∙ spread p q k e f))
    ∙ rest (k *ℤ (p *ℤ e *ℤ q)) (p *ℤ f *ℤ q) (d *ℤ F *ℤ q)

pub half_way : (l : List (List ℤ)) → Modest l → DcAlone l → (k : ℤ) → DcHalf k l → (y x : ℕ) → HalfWay k (exact l y x)
half_way l small alone k e y x =
    let F = cell l 0 0 in
    subst (λ (w : ℤ). nat_abs w ≤ 2 ^ 195) (sym (off_half (pos (2 ^ 109)) (pos 88733869546807952) (pos (2 ^ 110)) k (pos 8) (pos 4) F (exact l y x) e (dc-exact l alone y x)))
    (le_trans
    (abs-mul-le (pos 88733869546807952 *ℤ F) (pos (2 ^ 110)) (88733869546807952 * 32768) (2 ^ 110) (abs-mul-le (pos 88733869546807952) F 88733869546807952 32768 (le_refl 88733869546807952) (small 0 0 (omega arith) (omega arith))) (le_refl (2 ^ 110)))
    (lit≤ tt))

-- at any depth each whole number is the one that the rule picks for k
pub dc-half : (d : ℕ) (l : List (List ℤ)) → depth_fine d ≡ true → values_fine d l ≡ true → DcAlone l → (k : ℤ) → DcHalf k l
    → (m : HalfIntegerRounding) (y x : ℕ) → y < 8 → x < 8 → whole m l y x ≡ tied m k
dc-half d l fine values alone k e m y x ly lx = let s = modest d l fine values in halves l s y x ly lx m k (half_way l s alone k e y x)
