-- Where the exact transform is within 2 ^ -27 of a half, the rule decides. Assumes nothing.
use mathlib.Core.Bool.{true}
use mathlib.Core.List.{List}
use mathlib.Core.Path.{◌≡◌, sym, ap, ◌∙◌}
use Prim.Native.Nat.{ℕ, ◌+◌, ◌*◌, ◌^◌, ◌≤◌, ◌<◌}
use native.Mathlib.Nat.{mul_assoc, mul-le-mul_right}
use native.Mathlib.Omega.{arith}
use lib.IntN.{ℤ, pos, neg_ℤ, nat_abs, ◌-ℤ◌, ◌*ℤ◌}
use Rattle.numbers.proofs.Integers.{up, dn, neg-up, neg-dn, abs_is, add_is}
use Rattle.f64_error.proofs.Binary64.{one_mesh, grain_mesh}
use Rattle.f64_error.proofs.FromIntegers.{times_up, times_dn}
use Rattle.f64_error.proofs.Halves.{tie_at}
use Rattle.f64_error.proofs.Grains.{grain, mesh}
use Rattle.f64_error.specs.Units.{one}
use Rattle.exact_transform.proofs.Bounds.{transform_near, bounded}
use Rattle.rounding.proofs.Rounds.{by_test}
use Rattle.exact_transform.specs.Exact.{exact, Modest}
use Rattle.rounding.specs.Rounding.{tied}
use Rattle.exact_transform.specs.Transform.{computed, whole}
use Rattle.rounding.specs.declared.HalfIntegerRounding.{HalfIntegerRounding}
use Rattle.idct_laws.specs.Ties.{HalfWay}

-- |z - k * K - H| ≤ T as two bounds
apart : (z k : ℤ) (K H T : ℕ) → nat_abs (z -ℤ k *ℤ pos K -ℤ pos H) ≤ T → (up z + dn k * K ≤ dn z + up k * K + H + T) × (dn z + up k * K + H ≤ up z + dn k * K + T)
apart z k K H T h =
    let e = add_is z (neg_ℤ (k *ℤ pos K)) in
    let f = add_is (z -ℤ k *ℤ pos K) (neg_ℤ (pos H)) in
    let a = abs_is (z -ℤ k *ℤ pos K -ℤ pos H) in
    omega (arith, neg-up (k *ℤ pos K), neg-dn (k *ℤ pos K), times_up k K, times_dn k K, neg-up (pos H), neg-dn (pos H))

-- the same in units of 2 ^ -1074
scale : (p n q m K H T o h t : ℕ) → o ≡ K * mesh → h ≡ H * mesh → t ≡ T * mesh
    → (p + m * K ≤ n + q * K + H + T) × (n + q * K + H ≤ p + m * K + T) → (p * mesh + m * o ≤ n * mesh + q * o + h + t) × (n * mesh + q * o + h ≤ p * mesh + m * o + t)
scale p n q m K H T o h t e f g a =
    let a1 : (p + m * K) * mesh ≤ (n + q * K + H + T) * mesh = mul-le-mul_right mesh a.0 in
    let a2 : (n + q * K + H) * mesh ≤ (p + m * K + T) * mesh = mul-le-mul_right mesh a.1 in
    let e1 : m * o ≡ m * K * mesh = ap (λ (z : ℕ). m * z) e ∙ sym (mul_assoc m K mesh) in
    let e2 : q * o ≡ q * K * mesh = ap (λ (z : ℕ). q * z) e ∙ sym (mul_assoc q K mesh) in
    both a1 a2 e1 e2
  where
    both : (p + m * K) * mesh ≤ (n + q * K + H + T) * mesh → (n + q * K + H) * mesh ≤ (p + m * K + T) * mesh → m * o ≡ m * K * mesh → q * o ≡ q * K * mesh
        → (p * mesh + m * o ≤ n * mesh + q * o + h + t) × (n * mesh + q * o + h ≤ p * mesh + m * o + t)
    both a1 a2 e1 e2 = omega arith

half_is : 2 ^ 59 * grain ≡ 2 ^ 221 * mesh
half_is = ap (λ (w : ℕ). 2 ^ 59 * w) grain_mesh ∙ sym (mul_assoc (2 ^ 59) (2 ^ 162) mesh)

slack_is : 2 ^ 33 * grain ≡ 2 ^ 195 * mesh
slack_is = ap (λ (w : ℕ). 2 ^ 33 * w) grain_mesh ∙ sym (mul_assoc (2 ^ 33) (2 ^ 162) mesh)

-- v is near z, and z near k and a half
join : (pv nv pz nz pk nk h : ℕ) → pv + nz ≤ nv + pz + 1610612736 * grain → pz + nk ≤ nz + pk + h + 2 ^ 33 * grain → pv + nk ≤ nv + pk + h + 10992344133 * grain
join pv nv pz nz pk nk h a b = omega arith

join' : (pv nv pz nz pk nk h : ℕ) → nv + pz ≤ pv + nz + 1610612736 * grain → nz + pk + h ≤ pz + nk + 2 ^ 33 * grain → nv + pk + h ≤ pv + nk + 10992344133 * grain
join' pv nv pz nz pk nk h a b = omega arith

-- where the exact transform is within 2 ^ -27 of k + 1/2, the whole number is the one that the rule picks for k
pub halves : (l : List (List ℤ)) → Modest l → (y x : ℕ) → y < 8 → x < 8 → (m : HalfIntegerRounding) (k : ℤ) → HalfWay k (exact l y x) → whole m l y x ≡ tied m k
unfolding whole
halves l modest y x ly lx m k h =
    let f = computed l y x in
    let z = exact l y x in
    let t = transform_near l modest y x ly lx in
    let s = scale (up z) (dn z) (up k) (dn k) (2 ^ 222) (2 ^ 221) (2 ^ 195) one (2 ^ 59 * grain) (2 ^ 33 * grain) one_mesh half_is slack_is (apart z k (2 ^ 222) (2 ^ 221) (2 ^ 195) h) in
    let r = tie_at f t.v k t.is t.size
    (join (up t.v) (dn t.v) (up z * mesh) (dn z * mesh) (up k * one) (dn k * one) (2 ^ 59 * grain) t.over s.0)
    (join' (up t.v) (dn t.v) (up z * mesh) (dn z * mesh) (up k * one) (dn k * one) (2 ^ 59 * grain) t.under s.1) in
    sym (by_test f (bounded l modest y x ly lx) k r.0 m true r.1)
