-- What `floor_z` and `nearest_z` are, over the value in units. Assumes nothing.
use mathlib.Core.Bool.{Bool, true, false}
use mathlib.Core.Path.{◌≡◌, refl, sym, subst}
use Prim.Native.Nat.{ℕ, ◌+◌, ◌-◌, ◌*◌, ◌^◌, ◌≤◌, ◌<◌, ◌/◌, ◌%◌}
use native.Mathlib.Nat.{lt_of_mul-lt-mul_right, div-add-mod', mod-lt}
use native.Mathlib.Omega.{arith}
use lib.Ieee.{Float, nan, inf, fin, Format, low, up as numer, down as denom, binary64}
use lib.Ieee.Fits.{down_pos}
use lib.IntN.{ℤ, pos, neg_ℤ}
use lib.Pow.{pow_pos}
use Rattle.numbers.proofs.Integers.{dn, eq_in, neg-dn, neg-up, up}
use Rattle.f64_error.proofs.Binary64.{is_unique}
use Rattle.f64_error.proofs.Order.{le_units, lt_units}
use Rattle.f64_error.specs.Units.{Is, Val, one, sgn}
use Rattle.f64_error.proofs.Distances.{FloorOf, NearestOf, WithinHalf}
use Rattle.f64_error.specs.Wholes.{floor_z, nearest_z}

-- a / d is n / L
module _ (a d n L : ℕ) (D : 0 < d) (l : 0 < L) (h : a * L ≡ n * d) where
  floor_up : (a / d * L ≤ n) × (n < a / d * L + L)
  floor_up =
      let q = a / d in
      let e = div-add-mod' a d in
      let r = mod-lt a D in (
        le_units (q * d) a d (q * L) n L D l (line q d L) h (omega arith),
        lt_units a (q * d + d) d n (q * L + L) L D l h (more q d L) (omega arith),
      )
    where
      line : (q d L : ℕ) → q * d * L ≡ q * L * d
      line q d L = omega arith

      more : (q d L : ℕ) → (q * d + d) * L ≡ (q * L + L) * d
      more q d L = omega arith

  floor_down : (n ≤ (a + (d - 1)) / d * L) × ((a + (d - 1)) / d * L < n + L)
  floor_down =
      let q = (a + (d - 1)) / d in
      let e = div-add-mod' (a + (d - 1)) d in
      let r = mod-lt (a + (d - 1)) D in (
        le_units a (q * d) d n (q * L) L D l h (line q d L) (omega arith),
        lt_units (q * d) (a + d) d (q * L) (n + L) L D l (line q d L) (more a d L n h) (omega arith),
      )
    where
      line : (q d L : ℕ) → q * d * L ≡ q * L * d
      line q d L = omega arith

      more : (a d L n : ℕ) → a * L ≡ n * d → (a + d) * L ≡ (n + L) * d
      more a d L n h = omega arith

  nearest_up : (2 * ((2 * a + d) / (2 * d) * L) ≤ 2 * n + L) × (2 * n < 2 * ((2 * a + d) / (2 * d) * L) + L)
  nearest_up =
      let q = (2 * a + d) / (2 * d) in
      let e = div-add-mod' (2 * a + d) (2 * d) in
      let r = mod-lt (2 * a + d) (twice d D) in
      let z = apart q d ((2 * a + d) % (2 * d)) (2 * a + d) e r in (
        le_units (2 * (q * d)) (2 * a + d) d (2 * (q * L)) (2 * n + L) L D l (line q d L) (more a d L n h) z.0,
        lt_units (2 * a) (2 * (q * d) + d) d (2 * n) (2 * (q * L) + L) L D l (both a d L n h) (next q d L) (less a d (q * d) z.1),
      )
    where
      twice : (d : ℕ) → 0 < d → 0 < 2 * d
      twice d D = omega arith

      apart : (q d r s : ℕ) → q * (2 * d) + r ≡ s → r < 2 * d → (2 * (q * d) ≤ s) × (s < 2 * (q * d) + 2 * d)
      apart q d r s e l = omega arith

      less : (a d z : ℕ) → 2 * a + d < 2 * z + 2 * d → 2 * a < 2 * z + d
      less a d z h = omega arith

      line : (q d L : ℕ) → 2 * (q * d) * L ≡ 2 * (q * L) * d
      line q d L = omega arith

      next : (q d L : ℕ) → (2 * (q * d) + d) * L ≡ (2 * (q * L) + L) * d
      next q d L = omega arith

      both : (a d L n : ℕ) → a * L ≡ n * d → 2 * a * L ≡ 2 * n * d
      both a d L n h = omega arith

      more : (a d L n : ℕ) → a * L ≡ n * d → (2 * a + d) * L ≡ (2 * n + L) * d
      more a d L n h = omega arith

-- ---- the floor
floor_val : (f : Format) (x : Float) (v : ℤ) → Val f x v → (up (floor_z x) * 2 ^ low f + dn v ≤ up v + dn (floor_z x) * 2 ^ low f) × (up v + dn (floor_z x) * 2 ^ low f < dn v + up (floor_z x) * 2 ^ low f + 2 ^ low f)
unfolding floor_z
floor_val f nan v h = absurd h
floor_val f (inf s) v h = absurd h
floor_val f (fin false m e) v h =
    let t = floor_up (m * numer e) (denom e) h.0 (2 ^ low f) (down_pos e) (pow_pos (low f)) h.1 in
    subst (λ (z : ℤ). (m * numer e / denom e * 2 ^ low f + dn z ≤ up z + 0 * 2 ^ low f) × (up z + 0 * 2 ^ low f < dn z + m * numer e / denom e * 2 ^ low f + 2 ^ low f)) (sym h.2)
    (line (m * numer e / denom e) (2 ^ low f) h.0 t.0 t.1)
  where
    line : (q L n : ℕ) → q * L ≤ n → n < q * L + L → (q * L + 0 ≤ n + 0 * L) × (n + 0 * L < 0 + q * L + L)
    line q L n a b = omega arith
floor_val f (fin true m e) v h =
    let q = (m * numer e + (denom e - 1)) / denom e in
    let t = floor_down (m * numer e) (denom e) h.0 (2 ^ low f) (down_pos e) (pow_pos (low f)) h.1 in
    subst (λ (z : ℤ). (up (neg_ℤ (pos q)) * 2 ^ low f + dn z ≤ up z + dn (neg_ℤ (pos q)) * 2 ^ low f) × (up z + dn (neg_ℤ (pos q)) * 2 ^ low f < dn z + up (neg_ℤ (pos q)) * 2 ^ low f + 2 ^ low f)) (sym h.2)
    (simp (neg-up, neg-dn) (line q (2 ^ low f) h.0 t.0 t.1))
  where
    line : (q L n : ℕ) → n ≤ q * L → q * L < n + L → (0 * L + n ≤ 0 + q * L) × (0 + q * L < n + 0 * L + L)
    line q L n a b = omega arith

pub floor_of_lem : (x : Float) (v : ℤ) → Is x v → FloorOf x (floor_z x)
unfolding Is one
floor_of_lem x v h = let r = floor_val binary64 x v h in record { v = v; is = h; low = r.0; high = r.1 }

cancel_one : (a b : ℕ) → a * one < (b + 1) * one → a ≤ b
cancel_one a b h = let l : a < b + 1 = lt_of_mul-lt-mul_right one h in omega arith

pub floor_unique : (x : Float) (r t : ℤ) → FloorOf x r → FloorOf x t → r ≡ t
floor_unique x r t f g = go f.v f.low f.high (subst (λ (v : ℤ). up t * one + dn v ≤ up v + dn t * one) e g.low) (subst (λ (v : ℤ). up v + dn t * one < dn v + up t * one + one) e g.high)
  where
    e : g.v ≡ f.v
    e = is_unique x g.v f.v g.is f.is

    go : (v : ℤ) → up r * one + dn v ≤ up v + dn r * one → up v + dn r * one < dn v + up r * one + one → up t * one + dn v ≤ up v + dn t * one → up v + dn t * one < dn v + up t * one + one → r ≡ t
    go v a b c d =
        let p = cancel_one (up r + dn t) (dn r + up t) (omega arith) in
        let q = cancel_one (dn r + up t) (up r + dn t) (omega arith) in
        eq_in (omega arith)

pub floor_is : (x : Float) (r : ℤ) → FloorOf x r → r ≡ floor_z x
floor_is x r f = floor_unique x r (floor_z x) f (floor_of_lem x f.v f.is)

nearest_val : (f : Format) (x : Float) (v : ℤ) → Val f x v
    → (s : Bool) × (n : ℕ) × (q : ℕ) × (v ≡ sgn s n) × (nearest_z x ≡ sgn s q) × (2 * (q * 2 ^ low f) ≤ 2 * n + 2 ^ low f) × (2 * n < 2 * (q * 2 ^ low f) + 2 ^ low f)
unfolding nearest_z
nearest_val f nan v h = absurd h
nearest_val f (inf s) v h = absurd h
nearest_val f (fin s m e) v h =
    let t = nearest_up (m * numer e) (denom e) h.0 (2 ^ low f) (down_pos e) (pow_pos (low f)) h.1 in
    (s, h.0, (2 * (m * numer e) + denom e) / (2 * denom e), h.2, refl, t.0, t.1)

pub nearest_of : (x : Float) (v : ℤ) → Is x v → NearestOf x (nearest_z x)
unfolding Is one
nearest_of x v h =
    let r = nearest_val binary64 x v h in
    record { negative = r.0; n = r.1; q = r.2; is = subst (λ (z : ℤ). Val binary64 x z) r.3 h; result = r.4; low = r.5; high = r.6 }

pub nearest_within : (x : Float) (r : ℤ) → NearestOf x r → WithinHalf x r
nearest_within x r f = record { v = sgn f.negative f.n; is = f.is; over = (go f.negative).0; under = (go f.negative).1 }
  where
    signed : (s : Bool) (n q : ℕ) → 2 * (q * one) ≤ 2 * n + one → 2 * n < 2 * (q * one) + one
        → (2 * (up (sgn s q) * one + dn (sgn s n)) ≤ 2 * (dn (sgn s q) * one + up (sgn s n)) + one) × (2 * (dn (sgn s q) * one + up (sgn s n)) ≤ 2 * (up (sgn s q) * one + dn (sgn s n)) + one)
    signed false n q a b = omega arith
    signed true n q a b = simp (neg-up, neg-dn) (omega arith)

    go : (s : Bool) → (2 * (up r * one + dn (sgn f.negative f.n)) ≤ 2 * (dn r * one + up (sgn f.negative f.n)) + one) × (2 * (dn r * one + up (sgn f.negative f.n)) ≤ 2 * (up r * one + dn (sgn f.negative f.n)) + one)
    go s =
        subst (λ (z : ℤ). (2 * (up z * one + dn (sgn f.negative f.n)) ≤ 2 * (dn z * one + up (sgn f.negative f.n)) + one) × (2 * (dn z * one + up (sgn f.negative f.n)) ≤ 2 * (up z * one + dn (sgn f.negative f.n)) + one))
        (sym f.result) (signed f.negative f.n f.q f.low f.high)

-- where x is not half-way, there is one nearest only
pub nearest_is : (x : Float) (v r : ℤ) → Is x v → 2 * (up r * one + dn v) < 2 * (dn r * one + up v) + one → 2 * (dn r * one + up v) < 2 * (up r * one + dn v) + one → r ≡ nearest_z x
nearest_is x v r i a b =
    let w = nearest_within x (nearest_z x) (nearest_of x v i) in
    let e : w.v ≡ v = is_unique x w.v v w.is i in
    go (nearest_z x) (subst (λ (z : ℤ). 2 * (up (nearest_z x) * one + dn z) ≤ 2 * (dn (nearest_z x) * one + up z) + one) e w.over) (subst (λ (z : ℤ). 2 * (dn (nearest_z x) * one + up z) ≤ 2 * (up (nearest_z x) * one + dn z) + one) e w.under)
  where
    go : (t : ℤ) → 2 * (up t * one + dn v) ≤ 2 * (dn t * one + up v) + one → 2 * (dn t * one + up v) ≤ 2 * (up t * one + dn v) + one → r ≡ t
    go t c d =
        let p = cancel_one (up r + dn t) (dn r + up t) (omega arith) in
        let q = cancel_one (dn r + up t) (up r + dn t) (omega arith) in
        eq_in (omega arith)
