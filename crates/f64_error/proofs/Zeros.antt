-- A zero added to a sum that is not -0 leaves it as it is, and a product with a zero is a zero; the format is a variable. Assumes nothing.
use mathlib.Core.Bool.{Bool, true, false, not, ◌&&◌, ◌||◌, beq, cond}
use mathlib.Core.Logic.{inl, inr}
use mathlib.Core.Path.{◌≡◌, refl, sym, ap, ◌∙◌, subst}
use Prim.Native.Nat.{ℕ, zero, suc, ◌+◌, ◌-◌, ◌*◌, ◌/◌, ◌%◌, ◌^◌, ◌≤◌, ◌<◌, compare, zero-le}
use native.Mathlib.Nat.{add-mul, add-zero, div-div-eq-div-mul, eq_of_mul-eq-mul_right, eq-or-lt_of_le, le_of_suc-le-suc, le_refl, le-suc, le-div_iff_mul-le, le_trans, lt_of_lt_of_le, lt_of_mul-lt-mul_right, lt_of_not-le, mul_assoc, mul_comm, mul-le-mul_right, mul-lt-mul_of_pos_right, mul-one, mul-pos, mul_right_comm, not-le_of_lt, one-mul, sub-zero, zero-lt-suc, zero-mul}
use native.Mathlib.Omega.{arith}
use lib.Arith.{le→nltb}
use lib.Dec.{T, eqb, eqb→eq, not_T, leb, leb→le, lt→ltb, ltb, ltb→lt}
use lib.Ieee.{Float, nan, inf, fin, Format, prec, emax, low, unlike, up, down, size, odd, units, round, sum, add, mul, eq, fits, binary64, hid, top, to_bits, of_bits}
use lib.Ieee.Bits.{is_false, is_true, of_bits-to_bits}
use lib.Ieee.Digits.{size-lt, size_reaches}
use lib.Ieee.Exact.{HasValue, odd_sign, round_exact}
use lib.Ieee.Fits.{add-fits, and_l, and_r, down_pos, reach, round-fits, two, up_pos}
use lib.Ieee.Nearest.{closest, div_same, nearest-ge}
use lib.Ieee.Scale.{round_same}
use lib.IntN.{ℤ, pos, negsuc}
use lib.Pow.{pow-add, pow-lt, pow_mono, pow_pos, shl_lt}
use Rattle.f64_error.proofs.Operations.{at_l, at_r, mul_swap}
use Rattle.f64_error.specs.Series.{series_f}
use Rattle.f64_error.specs.Units.{Is}

-- ---- a number and a sign are written in one way
-- `to_bits`, from the magnitude in the format's smallest units on
abbrev packed : Format → Bool → ℕ → ℕ
packed f s n = cond s (top f) 0 + (size n - prec f) * hid f + n / 2 ^ (size n - prec f)

bits-same : (f : Format) (s : Bool) (m n : ℕ) (e g : ℤ) → m * up e * 2 ^ low f * down g ≡ n * up g * 2 ^ low f * down e → to_bits f (fin s m e) ≡ to_bits f (fin s n g)
unfolding to_bits
bits-same f s m n e g h = ap (packed f s) (div_same (m * up e * 2 ^ low f) (down e) (n * up g * 2 ^ low f) (down g) (down_pos e) (down_pos g) h)

cross : (x y a c d b l : ℕ) → 0 < c → x * c ≡ a * d → y * c ≡ a * b → x * l * b ≡ y * l * d
cross x y a c d b l C h k =
    eq_of_mul-eq-mul_right c C (x * l * b) (y * l * d)
    (mul_right_comm (x * l) b c ∙ ap (λ (z : ℕ). z * b) (mul_right_comm x l c ∙ ap (λ (z : ℕ). z * l) h) ∙ swap a d l b ∙ sym (mul_right_comm (y * l) d c ∙ ap (λ (z : ℕ). z * d) (mul_right_comm y l c ∙ ap (λ (z : ℕ). z * l) k)))
  where
    swap : (a d l b : ℕ) → a * d * l * b ≡ a * b * l * d
    swap a d l b = mul_right_comm (a * d) l b ∙ ap (λ (z : ℕ). z * l) (mul_right_comm a d b) ∙ mul_right_comm (a * b) d l

pub value_unique : (f : Format) (x y : Float) (s : Bool) (a c : ℕ) → 0 < c → T (fits f x) → T (fits f y) → HasValue x s a c → HasValue y s a c → x ≡ y
value_unique f (fin t m e) (fin u n g) s a c C p q v w =
    sym (of_bits-to_bits f (fin t m e) p)
    ∙ ap (of_bits f) (ap (λ (b : Bool). to_bits f (fin b m e)) (v.0 ∙ sym w.0) ∙ bits-same f u m n e g (cross (m * up e) (n * up g) a c (down e) (down g) (2 ^ low f) C v.1 w.1))
    ∙ of_bits-to_bits f (fin u n g) q
value_unique f nan y s a c C p q v w = elim v [ ]
value_unique f (inf _) y s a c C p q v w = elim v [ ]
value_unique f (fin t m e) nan s a c C p q v w = elim w [ ]
value_unique f (fin t m e) (inf _) s a c C p q v w = elim w [ ]

-- ---- `round` gives back a float that fits
-- the significand m of e is a whole number of units, m times a power of two
pub record Whole (f : Format) (m : ℕ) (e : ℤ) : Type 0 where
  pub power : ℕ
  pub is : m * up e * 2 ^ low f ≡ m * 2 ^ power * down e
  pub under : m * 2 ^ power < 2 ^ (low f + suc (emax f))

whole_of : (f : Format) (m : ℕ) (e : ℤ) → m < 2 ^ prec f → down e ≤ 2 ^ low f → m * up e < 2 ^ suc (emax f) * down e → Whole f m e
whole_of f m (pos k) a b c =
    let e : m * 2 ^ k * 2 ^ low f ≡ m * 2 ^ (k + low f) = mul_assoc m (2 ^ k) (2 ^ low f) ∙ ap (λ (z : ℕ). m * z) (sym (pow-add 2 k (low f))) in
    record {
      power = k + low f;
      is = e ∙ sym (mul-one (m * 2 ^ (k + low f)));
      under = subst (λ (z : ℕ). z < 2 ^ (low f + suc (emax f))) e
          (subst (λ (z : ℕ). m * 2 ^ k * 2 ^ low f < z) (mul_comm (2 ^ suc (emax f)) (2 ^ low f) ∙ sym (pow-add 2 (low f) (suc (emax f))))
          (mul-lt-mul_of_pos_right (subst (λ (z : ℕ). m * 2 ^ k < z) (mul-one (2 ^ suc (emax f))) c) (pow_pos (low f))));
    }
whole_of f m (negsuc k) a b c =
    let l : suc k ≤ low f = exponent (suc k) (low f) b in
    record {
      power = low f - suc k;
      is = ap (λ (z : ℕ). z * 2 ^ low f) (mul-one m) ∙ ap (λ (z : ℕ). m * 2 ^ z) (split (low f) (suc k) l) ∙ ap (λ (z : ℕ). m * z) (pow-add 2 (low f - suc k) (suc k)) ∙ sym (mul_assoc m (2 ^ (low f - suc k)) (2 ^ suc k));
      under = lt_of_lt_of_le (shl_lt (prec f) (low f - suc k) a) (pow_mono (room (prec f) (low f) (suc k) (suc (emax f)) (reach f)));
    }
  where
    exponent : (i j : ℕ) → 2 ^ i ≤ 2 ^ j → i ≤ j
    exponent i j h = not_less i j (λ (g : j < i). not-le_of_lt (pow-lt g) h)
      where
        not_less : (i j : ℕ) → (j < i → ⊥) → i ≤ j
        not_less i j h = omega arith

    split : (l k : ℕ) → k ≤ l → l ≡ l - k + k
    split l k h = omega arith

    room : (p l k e : ℕ) → p ≤ e → p + (l - k) ≤ l + e
    room p l k e h = omega arith

pub whole_units : (f : Format) (s : Bool) (m : ℕ) (e : ℤ) → T (fits f (fin s m e)) → (m < 2 ^ prec f) × Whole f m e
unfolding fits
whole_units f s zero e t = (pow_pos (prec f), record { power = 0; is = none (up e) (2 ^ low f) (2 ^ 0) (down e); under = pow_pos (low f + suc (emax f)) })
  where
    none : (a b c d : ℕ) → 0 * a * b ≡ 0 * c * d
    none a b c d = omega arith
whole_units f s (suc m) e t =
    let o : Bool = eqb (suc m % 2) 1 in
    let a : Bool = ltb (suc m) (2 ^ prec f) in
    let b : Bool = leb (down e) (2 ^ low f) in
    let c : Bool = ltb (suc m * up e) (2 ^ suc (emax f) * down e) in
    let small = ltb→lt (suc m) (2 ^ prec f) (and_r o a (and_l (o && a) b (and_l (o && a && b) c t))) in
    (small, whole_of f (suc m) e small (leb→le (down e) (2 ^ low f) (and_r (o && a) b (and_l (o && a && b) c t))) (ltb→lt (suc m * up e) (2 ^ suc (emax f) * down e) (and_r (o && a && b) c t)))

pub round_back : (f : Format) (s : Bool) (m : ℕ) (e : ℤ) → T (fits f (fin s m e)) → round f s (m * up e) (down e) ≡ fin s m e
round_back f s m e t =
    let w = whole_units f s m e t in
    value_unique f (round f s (m * up e) (down e)) (fin s m e) s (m * up e) (down e) (down_pos e) (round-fits f s (m * up e) (down e)) t
    (round_exact f s (m * up e) (down e) m w.1.power (down_pos e) w.0 w.1.under w.1.is)
    (refl, refl)

-- ---- a zero added
abbrev pub not_minus_zero : Float → Bool
not_minus_zero nan = true
not_minus_zero (inf s) = true
not_minus_zero (fin s m e) = not (s && eqb m 0)

nonzero : (n : ℕ) → 0 < n → T (not (eqb n 0))
nonzero n h = not_T (eqb n 0) (λ (t : T (eqb n 0)). none n h (eqb→eq n 0 t))
  where
    none : (n : ℕ) → 0 < n → n ≡ 0 → ⊥
    none n h e = omega arith

times : (s : Bool) (m k : ℕ) → 0 < k → T (not (s && eqb m 0)) → T (not (s && eqb (m * k) 0))
times false m k h t = tt
times true zero k h t = absurd t
times true (suc m) k h t = nonzero (suc m * k) (mul-pos (zero-lt-suc m) h)

positive : (a : ℕ) → T (not (eqb a 0)) → 0 < a
positive zero t = absurd t
positive (suc a) t = zero-lt-suc a

sum-zero : (f : Format) (s : Bool) (a : ℕ) (t : Bool) (c : ℕ) → T (not (s && eqb a 0)) → sum f s a t 0 c ≡ round f s a c
unfolding sum
sum-zero f false a false c h = ap (λ (z : ℕ). round f false z c) (add-zero a)
sum-zero f true a true c h = ap (λ (z : ℕ). round f true z c) (add-zero a)
sum-zero f false a true c h =
    ap (λ (b : Bool). cond b (round f true (0 - a) c) (round f false (a - 0) c)) (is_false (ltb a 0) (le→nltb a 0 zero-le)) ∙ ap (λ (z : ℕ). round f false z c) (sub-zero a)
sum-zero f true a false c h =
    ap (λ (b : Bool). cond b (round f false (0 - a) c) (round f (true && ltb 0 a) (a - 0) c)) (is_false (ltb a 0) (le→nltb a 0 zero-le))
    ∙ ap (λ (b : Bool). round f b (a - 0) c) (is_true (ltb 0 a) (lt→ltb 0 a (positive a h)))
    ∙ ap (λ (z : ℕ). round f true z c) (sub-zero a)

pub add_none : (f : Format) (x : Float) (t : Bool) (d : ℤ) → T (fits f x) → T (not_minus_zero x) → add f x (fin t 0 d) ≡ x
unfolding add
add_none f nan t d p h = refl
add_none f (inf s) t d p h = refl
add_none f (fin s m e) t d p h =
    ap (λ (z : ℕ). sum f s (m * up e * down d) t z (down e * down d)) (ap (λ (z : ℕ). z * down e) (zero-mul (up d)) ∙ zero-mul (down e))
    ∙ sum-zero f s (m * up e * down d) t (down e * down d) (times s (m * up e) (down d) (down_pos d) (times s m (up e) (up_pos e) h))
    ∙ round_same f s (m * up e * down d) (down e * down d) (m * up e) (down e) (mul-pos (down_pos e) (down_pos d)) (down_pos e) (mul_assoc (m * up e) (down d) (down e) ∙ ap (λ (z : ℕ). m * up e * z) (mul_comm (down d) (down e)))
    ∙ round_back f s m e p

-- ---- a product with a zero
-- x is +0 or -0
abbrev pub Nought : Float → Type 0
Nought x = (s : Bool) × (e : ℤ) × (x ≡ fin s 0 e)

pub mul-none : (f : Format) (s : Bool) (e : ℤ) (t : Bool) (n : ℕ) (d : ℤ) → mul f (fin s 0 e) (fin t n d) ≡ fin (unlike s t) 0 (pos 0)
unfolding mul fits
mul-none f s e t n d =
    round_same f (unlike s t) (0 * up e * (n * up d)) (down e * down d) (0 * 1) 1 (mul-pos (down_pos e) (down_pos d)) (zero-lt-suc 0) (none (up e) (n * up d) (down e * down d))
    ∙ round_back f (unlike s t) 0 (pos 0) tt
  where
    none : (a b c : ℕ) → 0 * a * b * 1 ≡ 0 * 1 * c
    none a b c = omega arith

pub nought_left : (x y : Float) (v : ℤ) → Nought x → Is y v → Nought (mul binary64 x y)
unfolding Is
nought_left x nan v z h = absurd h
nought_left x (inf t) v z h = absurd h
nought_left x (fin t n d) v z h = (unlike z.0 t, pos 0, ap (λ (a : Float). mul binary64 a (fin t n d)) z.2 ∙ mul-none binary64 z.0 z.1 t n d)

pub nought_right : (x y : Float) (v : ℤ) → Is x v → Nought y → Nought (mul binary64 x y)
nought_right x y v h z = subst Nought (mul_swap binary64 y x) (nought_left y x v z h)

-- ---- a sum that starts at +0 is never -0
odd-not-minus : (d q k l : ℕ) → T (not_minus_zero (odd d false q k l))
unfolding odd
odd-not-minus d zero k l = tt
odd-not-minus d (suc q) k l = tt

choice : (b : Bool) (x y : Float) → T (not_minus_zero x) → T (not_minus_zero y) → T (not_minus_zero (cond b x y))
choice true x y h k = h
choice false x y h k = k

round_plus : (f : Format) (num den : ℕ) → T (not_minus_zero (round f false num den))
unfolding round units
round_plus f num den =
    let n = num * 2 ^ low f in
    let k = size (n / den) - prec f in
    let q = closest n (den * 2 ^ k) in
    choice (ltb (q * 2 ^ k) (2 ^ (low f + suc (emax f)))) (odd (suc (prec f)) false q k (low f)) (inf false) (odd-not-minus (suc (prec f)) q k (low f)) tt

has_some : (x : Float) (s : Bool) (a c : ℕ) → 0 < a → HasValue x s a c → T (not_minus_zero x)
has_some (fin t zero e) s a c h v = absurd (none (up e) c (a * down e) (mul-pos h (down_pos e)) v.1)
  where
    none : (u c x : ℕ) → 0 < x → 0 * u * c ≡ x → ⊥
    none u c x h e = omega arith
has_some (fin false (suc m) e) s a c h v = tt
has_some (fin true (suc m) e) s a c h v = nonzero (suc m) (zero-lt-suc m)
has_some nan s a c h v = elim v [ ]
has_some (inf _) s a c h v = elim v [ ]

-- a unit at least is not rounded to zero
round_some : (f : Format) (s : Bool) (num den : ℕ) → 0 < den → den ≤ num * 2 ^ low f → T (not_minus_zero (round f s num den))
unfolding round units
round_some f s num den D h =
    let n = num * 2 ^ low f in
    let w = n / den in
    let k = size w - prec f in
    let q = closest n (den * 2 ^ k) in
    let one : 1 ≤ w = (le-div_iff_mul-le D).1 (subst (λ (z : ℕ). z ≤ n) (sym (one-mul den)) h) in
    let z : 0 < size w = lt_of_not-le (λ (g : size w ≤ 0). not-le_of_lt (lt_of_lt_of_le (size-lt w) (pow_mono g)) one) in
    let l : 1 ≤ n / (den * 2 ^ k) = subst (λ (x : ℕ). 1 ≤ x) (div-div-eq-div-mul n den (2 ^ k)) ((le-div_iff_mul-le (pow_pos k)).1 (subst (λ (x : ℕ). x ≤ w) (sym (one-mul (2 ^ k))) (size_reaches w k (fewer (size w) (prec f) z (two f))))) in
    let g : 0 < q = le_trans l (nearest-ge (n / (den * 2 ^ k)) (compare (n % (den * 2 ^ k) * 2) (den * 2 ^ k))) in
    choice (ltb (q * 2 ^ k) (2 ^ (low f + suc (emax f)))) (odd (suc (prec f)) s q k (low f)) (inf s) (has_some (odd (suc (prec f)) s q k (low f)) s (q * 2 ^ k) (2 ^ low f) (mul-pos g (pow_pos k)) (odd_sign (suc (prec f)) s q k (low f))) tt
  where
    fewer : (z p : ℕ) → 0 < z → 2 ≤ p → z - p < z
    fewer z p h g = omega arith

-- two whole numbers of units are a unit apart at least
apart : (a b L p q c : ℕ) → 0 < L → a * L ≡ p * c → b * L ≡ q * c → a < b → c ≤ (b - a) * L
apart a b L p q c l h k g =
    let less : p * c < q * c = subst (λ (x : ℕ). x < q * c) h (subst (λ (x : ℕ). a * L < x) k (mul-lt-mul_of_pos_right g l)) in
    let next : suc p * c ≤ q * c = mul-le-mul_right c (lt_of_mul-lt-mul_right c less) in
    let back : (b - a) * L + a * L ≡ b * L = sym (add-mul (b - a) a L) ∙ ap (λ (z : ℕ). z * L) (rest a b g) in
    omega arith
  where
    rest : (a b : ℕ) → a < b → b - a + a ≡ b
    rest a b h = omega arith

module _ (f : Format) (a b c p q : ℕ) (C : 0 < c) (h : a * 2 ^ low f ≡ p * c) (k : b * 2 ^ low f ≡ q * c) where
  sum-some : (s t : Bool) → T (not (s && eqb a 0)) → T (not_minus_zero (sum f s a t b c))
  unfolding sum
  sum-some false false n = round_plus f (a + b) c
  sum-some true true n =
      round_some f true (a + b) c C
      (le_trans (apart 0 a (2 ^ low f) 0 p c (pow_pos (low f)) (zero-mul (2 ^ low f) ∙ sym (zero-mul c)) h (positive a n)) (mul-le-mul_right (2 ^ low f) (more a b)))
    where
      more : (a b : ℕ) → a - 0 ≤ a + b
      more a b = omega arith
  sum-some false true n = go (ltb a b) (ltb→lt a b)
    where
      go : (w : Bool) → (T w → a < b) → T (not_minus_zero (cond w (round f true (b - a) c) (round f false (a - b) c)))
      go true g = round_some f true (b - a) c C (apart a b (2 ^ low f) p q c (pow_pos (low f)) h k (g tt))
      go false g = round_plus f (a - b) c
  sum-some true false n = choice (ltb a b) (round f false (b - a) c) (round f (ltb b a) (a - b) c) (round_plus f (b - a) c) (go (ltb b a) (ltb→lt b a))
    where
      go : (w : Bool) → (T w → b < a) → T (not_minus_zero (round f w (a - b) c))
      go true g = round_some f true (a - b) c C (apart b a (2 ^ low f) q p c (pow_pos (low f)) k h (g tt))
      go false g = round_plus f (a - b) c

pub add-some : (f : Format) (x y : Float) → T (fits f x) → T (fits f y) → T (not_minus_zero x) → T (not_minus_zero (add f x y))
unfolding add
add-some f nan y p q h = tt
add-some f (inf s) nan p q h = tt
add-some f (inf s) (inf t) p q h = choice (beq s t) (inf s) nan tt tt
add-some f (inf s) (fin t n d) p q h = tt
add-some f (fin s m e) nan p q h = tt
add-some f (fin s m e) (inf t) p q h = tt
add-some f (fin s m e) (fin t n d) p q h =
    let v = (whole_units f s m e p).1 in
    let w = (whole_units f t n d q).1 in
    sum-some f (m * up e * down d) (n * up d * down e) (down e * down d) (m * 2 ^ v.power) (n * 2 ^ w.power) (mul-pos (down_pos e) (down_pos d))
    (at_l (m * up e) (2 ^ low f) (m * 2 ^ v.power) (down e) (down d) v.is)
    (at_r (n * up d) (2 ^ low f) (n * 2 ^ w.power) (down e) (down d) w.is)
    s t
    (times s (m * up e) (down d) (down_pos d) (times s m (up e) (up_pos e) h))

-- ---- a series, one term more of which is a zero
module _ (t : ℕ → Float) (held : (i : ℕ) → T (fits binary64 (t i))) where
  series_fits : (n : ℕ) → T (fits binary64 (series_f t n))
  unfolding series_f fits
  series_fits zero = tt
  series_fits (suc n) = add-fits binary64 (series_f t n) (t n)

  series_some : (n : ℕ) → T (not_minus_zero (series_f t n))
  unfolding series_f
  series_some zero = tt
  series_some (suc n) = add-some binary64 (series_f t n) (t n) (series_fits n) (held n) (series_some n)

  pub series_none : (n : ℕ) → Nought (t n) → series_f t (suc n) ≡ series_f t n
  unfolding series_f
  series_none n z = ap (add binary64 (series_f t n)) z.2 ∙ add_none binary64 (series_f t n) z.0 z.1 (series_fits n) (series_some n)

  -- the terms from k on are zeros
  pub series_rest : (k n : ℕ) → k ≤ n → ((i : ℕ) → k ≤ i → i < n → Nought (t i)) → series_f t n ≡ series_f t k
  series_rest k zero l h = ap (series_f t) (omega arith)
  series_rest k (suc n) l h =
      elim (eq-or-lt_of_le l) [
        | inl e ↦ ap (series_f t) (sym e)
        | inr g ↦ series_none n (h n (le_of_suc-le-suc g) (le_refl (suc n))) ∙ series_rest k n (le_of_suc-le-suc g) (λ (i : ℕ) (a : k ≤ i) (b : i < n). h i a (le_trans b (le-suc n)))
      ]

-- ---- what equals 0.0 is a zero
pub zero_of_eq : (x : Float) → T (eq x (fin false 0 (pos 0))) → Nought x
unfolding eq
zero_of_eq nan t = absurd t
zero_of_eq (inf s) t = absurd t
zero_of_eq (fin s m e) t =
    (s, e, ap (λ (z : ℕ). fin s z e) (none m (up e) (down e) (up_pos e) (eqb→eq (m * up e * 1) (0 * 1 * down e) (and_l (eqb (m * up e * 1) (0 * 1 * down e)) (beq s false || eqb (m * up e * 1) 0) t))))
  where
    none : (m u d : ℕ) → 0 < u → m * u * 1 ≡ 0 * 1 * d → m ≡ 0
    none zero u d h e = refl
    none (suc m) u d h e = absurd (line (suc m * u) d (mul-pos (zero-lt-suc m) h) e)
      where
        line : (x d : ℕ) → 0 < x → x * 1 ≡ 0 * 1 * d → ⊥
        line x d h e = omega arith
