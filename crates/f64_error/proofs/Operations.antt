-- What `add`, `mul` and `neg` do to the integer that a float is: the result is within 2 ^ k units of the exact one, where that is below 2 ^ (prec + 1 + k) units; the format is a variable. Assumes nothing.
use mathlib.Core.Bool.{Bool, true, false, not, ◌&&◌, cond}
use mathlib.Core.Path.{◌≡◌, refl, sym, ap, ◌∙◌, subst}
use Prim.Native.Nat.{ℕ, zero, suc, ◌+◌, ◌-◌, ◌*◌, ◌^◌, ◌≤◌, ◌<◌}
use native.Mathlib.Nat.{le_trans, le_of_eq, le_of_lt, lt_of_le_of_lt, lt_of_lt_of_le, mul_assoc, mul_left_comm, mul_right_comm, add-mul, mul-le-mul_right, mul-lt-mul_of_pos_right, lt_of_mul-lt-mul_right, le_of_mul-le-mul_right, mul-pos, mul_comm}
use native.Mathlib.Omega.{arith}
use lib.Dec.{T, ltb, ltb→lt, nltb→le, eqb}
use lib.Ieee.{Float, nan, inf, fin, Format, prec, emax, low, unlike, up as numer, down as denom, round, sum, add, mul, neg}
use lib.Ieee.Exact.{HasValue}
use lib.Ieee.Fits.{down_pos}
use lib.IntN.{ℤ, pos, neg_ℤ, nat_abs, ◌+ℤ◌}
use lib.Pow.{pow_pos}
use Rattle.numbers.proofs.Integers.{add_is, dn, neg-dn, neg-up, up}
use Rattle.f64_error.proofs.Rounded.{Off, round_off}
use Rattle.f64_error.specs.Units.{Val, sgn}

pub val_of : (f : Format) (x : Float) (s : Bool) (n : ℕ) → HasValue x s n (2 ^ low f) → Val f x (sgn s n)
val_of f nan s n h = h
val_of f (inf t) s n h = h
val_of f (fin t m e) s n h = (n, h.1, ap (λ (b : Bool). sgn b n) (sym h.0))

-- the magnitude of a number with a sign
pub abs-sgn : (s : Bool) (n : ℕ) → nat_abs (sgn s n) ≡ n
abs-sgn false n = refl
abs-sgn true zero = refl
abs-sgn true (suc n) = refl

-- v is within e of a
pub record Close (v a : ℤ) (e : ℕ) : Type 0 where
  pub over : up v + dn a ≤ dn v + up a + e
  pub under : dn v + up a ≤ up v + dn a + e

pub close_sum : (v a b : ℤ) (e : ℕ) → up v + (dn a + dn b) ≤ dn v + (up a + up b) + e → dn v + (up a + up b) ≤ up v + (dn a + dn b) + e → Close v (a +ℤ b) e
close_sum v a b e h k =
    let s = add_is a b in
    record { over = omega arith; under = omega arith }

-- ---- `round` of a fraction that is w units exactly
round_units : (f : Format) (s : Bool) (num den w k : ℕ) → 0 < den → num * 2 ^ low f ≡ w * den → w < 2 ^ (prec f + suc k) → 2 ^ (prec f + suc k) < 2 ^ (low f + suc (emax f))
    → (r : ℕ) × HasValue (round f s num den) s r (2 ^ low f) × (r ≤ w + 2 ^ k) × (w ≤ r + 2 ^ k)
round_units f s num den w k D e small fine =
    let t = round_off f s num den k D (subst (λ (x : ℕ). x < 2 ^ (prec f + suc k) * den) (sym e) (mul-lt-mul_of_pos_right small D)) fine in
    let r = t.0 in
    let o : Off r (w * den) den (2 ^ k) = subst (λ (x : ℕ). Off r x den (2 ^ k)) e t.2 in
    (r, t.1, le_of_mul-le-mul_right (le_trans o.over (le_of_eq (sym (add-mul w (2 ^ k) den)))) D, le_of_mul-le-mul_right (le_trans o.under (le_of_eq (sym (add-mul r (2 ^ k) den)))) D)

-- ---- a sum
pub at_l : (x L p d c : ℕ) → x * L ≡ p * d → x * c * L ≡ p * (d * c)
at_l x L p d c h = mul_right_comm x c L ∙ ap (λ (z : ℕ). z * c) h ∙ mul_assoc p d c

pub at_r : (y L q d c : ℕ) → y * L ≡ q * c → y * d * L ≡ q * (d * c)
at_r y L q d c h = mul_right_comm y d L ∙ ap (λ (z : ℕ). z * d) h ∙ mul_right_comm q c d ∙ mul_assoc q d c

minus_units : (A B L p q C : ℕ) → A * L ≡ p * C → B * L ≡ q * C → A ≤ B → p ≤ q → (B - A) * L ≡ (q - p) * C
minus_units A B L p q C a b h k =
    let x : (B - A) * L + A * L ≡ B * L = sym (add-mul (B - A) A L) ∙ ap (λ (z : ℕ). z * L) (back A B h) in
    let y : (q - p) * C + p * C ≡ q * C = sym (add-mul (q - p) p C) ∙ ap (λ (z : ℕ). z * C) (back p q k) in
    join ((B - A) * L) ((q - p) * C) (A * L) (B * L) (p * C) (q * C) x y a b
  where
    back : (i j : ℕ) → i ≤ j → j - i + i ≡ j
    back i j l = omega arith

    join : (d e a' b' p' q' : ℕ) → d + a' ≡ b' → e + p' ≡ q' → a' ≡ p' → b' ≡ q' → d ≡ e
    join d e a' b' p' q' u v g i = omega arith

le_units : (A B L p q C : ℕ) → 0 < C → A * L ≡ p * C → B * L ≡ q * C → A ≤ B → p ≤ q
le_units A B L p q C D a b h = le_of_mul-le-mul_right (le_trans (le_of_eq (sym a)) (le_trans (mul-le-mul_right L h) (le_of_eq b))) D

module _ (f : Format) (k : ℕ) (fine : 2 ^ (prec f + suc k) < 2 ^ (low f + suc (emax f))) where
  -- what an addition's result has to meet
  AddOk : Float → Bool → ℕ → Bool → ℕ → Type 0
  AddOk z s p t q = (v : ℤ) × Val f z v × Close v (sgn s p +ℤ sgn t q) (2 ^ k)

  module _ (A B C p q : ℕ) (D : 0 < C) (a : A * 2 ^ low f ≡ p * C) (b : B * 2 ^ low f ≡ q * C) (small : p + q < 2 ^ (prec f + suc k)) where
    -- like signs
    both : (s : Bool) → AddOk (round f s (A + B) C) s p s q
    unfolding AddOk
    both s =
        let t = round_units f s (A + B) C (p + q) k D (add-mul A B (2 ^ low f) ∙ ap (λ (z : ℕ). z + B * 2 ^ low f) a ∙ ap (λ (z : ℕ). p * C + z) b ∙ sym (add-mul p q C)) small fine in
        (sgn s t.0, val_of f (round f s (A + B) C) s t.0 t.1, fit s t.0 t.2 t.3)
      where
        fit : (s : Bool) (r : ℕ) → r ≤ p + q + 2 ^ k → p + q ≤ r + 2 ^ k → Close (sgn s r) (sgn s p +ℤ sgn s q) (2 ^ k)
        fit false r h g = close_sum (pos r) (pos p) (pos q) (2 ^ k) (omega arith) (omega arith)
        fit true r h g =
            close_sum (neg_ℤ (pos r)) (neg_ℤ (pos p)) (neg_ℤ (pos q)) (2 ^ k)
            (omega (arith, neg-up (pos r), neg-dn (pos r), neg-up (pos p), neg-dn (pos p), neg-up (pos q), neg-dn (pos q)))
            (omega (arith, neg-up (pos r), neg-dn (pos r), neg-up (pos p), neg-dn (pos p), neg-up (pos q), neg-dn (pos q)))

    -- unlike signs, the second operand the larger: its sign, and the difference
    second : (t : Bool) → A ≤ B → AddOk (round f t (B - A) C) (not t) p t q
    unfolding AddOk
    second t l =
        let g : p ≤ q = le_units A B (2 ^ low f) p q C D a b l in
        let u = round_units f t (B - A) C (q - p) k D (minus_units A B (2 ^ low f) p q C a b l g) (lt_of_le_of_lt (less p q) small) fine in
        (sgn t u.0, val_of f (round f t (B - A) C) t u.0 u.1, fit t u.0 g u.2 u.3)
      where
        less : (i j : ℕ) → j - i ≤ i + j
        less i j = omega arith

        fit : (t : Bool) (r : ℕ) → p ≤ q → r ≤ q - p + 2 ^ k → q - p ≤ r + 2 ^ k → Close (sgn t r) (sgn (not t) p +ℤ sgn t q) (2 ^ k)
        fit false r l h g = close_sum (pos r) (neg_ℤ (pos p)) (pos q) (2 ^ k) (omega (arith, neg-up (pos p), neg-dn (pos p))) (omega (arith, neg-up (pos p), neg-dn (pos p)))
        fit true r l h g =
            close_sum (neg_ℤ (pos r)) (pos p) (neg_ℤ (pos q)) (2 ^ k)
            (omega (arith, neg-up (pos r), neg-dn (pos r), neg-up (pos q), neg-dn (pos q)))
            (omega (arith, neg-up (pos r), neg-dn (pos r), neg-up (pos q), neg-dn (pos q)))

    -- unlike signs, the first operand the larger, or the two equal: the sum is then +0, so the sign may be another
    first : (s w : Bool) → B ≤ A → (T (not w) → A ≤ B) → AddOk (round f (s && w) (A - B) C) s p (not s) q
    unfolding AddOk
    first s w l n =
        let g : q ≤ p = le_units B A (2 ^ low f) q p C D b a l in
        let u = round_units f (s && w) (A - B) C (p - q) k D (minus_units B A (2 ^ low f) q p C b a l g) (lt_of_le_of_lt (less p q) small) fine in
        (sgn (s && w) u.0, val_of f (round f (s && w) (A - B) C) (s && w) u.0 u.1, fit s w u.0 g (λ (h : T (not w)). le_units A B (2 ^ low f) p q C D a b (n h)) u.2 u.3)
      where
        less : (i j : ℕ) → i - j ≤ i + j
        less i j = omega arith

        fit : (s w : Bool) (r : ℕ) → q ≤ p → (T (not w) → p ≤ q) → r ≤ p - q + 2 ^ k → p - q ≤ r + 2 ^ k → Close (sgn (s && w) r) (sgn s p +ℤ sgn (not s) q) (2 ^ k)
        fit false w r l n h g = close_sum (pos r) (pos p) (neg_ℤ (pos q)) (2 ^ k) (omega (arith, neg-up (pos q), neg-dn (pos q))) (omega (arith, neg-up (pos q), neg-dn (pos q)))
        fit true true r l n h g =
            close_sum (neg_ℤ (pos r)) (neg_ℤ (pos p)) (pos q) (2 ^ k)
            (omega (arith, neg-up (pos r), neg-dn (pos r), neg-up (pos p), neg-dn (pos p)))
            (omega (arith, neg-up (pos r), neg-dn (pos r), neg-up (pos p), neg-dn (pos p)))
        fit true false r l n h g =
            let m : p ≤ q = n tt in
            close_sum (pos r) (neg_ℤ (pos p)) (pos q) (2 ^ k) (omega (arith, neg-up (pos p), neg-dn (pos p))) (omega (arith, neg-up (pos p), neg-dn (pos p)))

    apart : (s c : Bool) → (T c → A ≤ B) → (T (not c) → B ≤ A) → AddOk (cond c (round f (not s) (B - A) C) (round f (s && ltb B A) (A - B) C)) s p (not s) q
    apart false true h g = second true (h tt)
    apart true true h g = second false (h tt)
    apart s false h g = first s (ltb B A) (g tt) (nltb→le B A)

    sum-ok : (s t : Bool) → AddOk (sum f s A t B C) s p t q
    unfolding sum
    sum-ok false false = both false
    sum-ok true true = both true
    sum-ok false true = apart false (ltb A B) (λ (h : T (ltb A B)). le_of_lt (ltb→lt A B h)) (nltb→le A B)
    sum-ok true false = apart true (ltb A B) (λ (h : T (ltb A B)). le_of_lt (ltb→lt A B h)) (nltb→le A B)

  -- `add`
  pub add-val : (x y : Float) (a b : ℤ) → Val f x a → Val f y b → nat_abs a + nat_abs b < 2 ^ (prec f + suc k) → (v : ℤ) × Val f (add f x y) v × Close v (a +ℤ b) (2 ^ k)
  unfolding add AddOk
  add-val nan y a b h g small = absurd h
  add-val (inf s) y a b h g small = absurd h
  add-val (fin s m e) nan a b h g small = absurd g
  add-val (fin s m e) (inf t) a b h g small = absurd g
  add-val (fin s m e) (fin t n d) a b h g small =
      let p = h.0 in
      let q = g.0 in
      let sm : p + q < 2 ^ (prec f + suc k) = subst (λ (x : ℕ). x < 2 ^ (prec f + suc k)) (ap (λ (x : ℕ). x + nat_abs b) (ap nat_abs h.2 ∙ abs-sgn s p) ∙ ap (λ (x : ℕ). p + x) (ap nat_abs g.2 ∙ abs-sgn t q)) small in
      let r = sum-ok (m * numer e * denom d) (n * numer d * denom e) (denom e * denom d) p q (mul-pos (down_pos e) (down_pos d)) (at_l (m * numer e) (2 ^ low f) p (denom e) (denom d) h.1) (at_r (n * numer d) (2 ^ low f) q (denom e) (denom d) g.1) sm s t in
      (r.0, r.1, subst (λ (z : ℤ). Close r.0 (z +ℤ b) (2 ^ k)) (sym h.2) (subst (λ (z : ℤ). Close r.0 (sgn s p +ℤ z) (2 ^ k)) (sym g.2) r.2))

-- v * L is within h * L of a * b
pub record Times (v a b : ℤ) (L h : ℕ) : Type 0 where
  pub over : up v * L + (up a * dn b + dn a * up b) ≤ dn v * L + (up a * up b + dn a * dn b) + h * L
  pub under : dn v * L + (up a * up b + dn a * dn b) ≤ up v * L + (up a * dn b + dn a * up b) + h * L

times_sgn : (s t : Bool) (r p q L h : ℕ) → r * L ≤ p * q + h * L → p * q ≤ r * L + h * L → Times (sgn (unlike s t) r) (sgn s p) (sgn t q) L h
times_sgn false false r p q L h a b = record { over = omega arith; under = omega arith }
times_sgn false true r p q L h a b = record { over = simp (neg-up, neg-dn) (omega arith); under = simp (neg-up, neg-dn) (omega arith) }
times_sgn true false r p q L h a b = record { over = simp (neg-up, neg-dn) (omega arith); under = simp (neg-up, neg-dn) (omega arith) }
times_sgn true true r p q L h a b = record { over = simp (neg-up, neg-dn) (omega arith); under = simp (neg-up, neg-dn) (omega arith) }

-- x is p / L of d, and y is q / L of c, so x * y * L * L is p * q of d * c
square : (x y p q d c L : ℕ) → x * L ≡ p * d → y * L ≡ q * c → x * y * L * L ≡ p * q * (d * c)
square x y p q d c L h g = simp mul_assoc (simp (mul_assoc, mul_left_comm) at (ap (λ (z : ℕ). z * (y * L)) h ∙ ap (λ (z : ℕ). p * d * z) g))

scaled_lt : (N P D L M : ℕ) → 0 < L → 0 < D → N * L * L ≡ P * D → P < M * L → N * L < M * D
scaled_lt N P D L M l d e h = lt_of_mul-lt-mul_right L (lt_of_le_of_lt (le_of_eq e) (lt_of_lt_of_le (mul-lt-mul_of_pos_right h d) (le_of_eq (mul_right_comm M L D))))

scaled_off : (N P D L r h : ℕ) → 0 < D → N * L * L ≡ P * D → Off r (N * L) D h → (r * L ≤ P + h * L) × (P ≤ r * L + h * L)
scaled_off N P D L r h d e o =
    let a : r * D * L ≤ (N * L + h * D) * L = mul-le-mul_right L o.over in
    let b : N * L * L ≤ (r * D + h * D) * L = mul-le-mul_right L o.under in
    (le_of_mul-le-mul_right (up' a e) d, le_of_mul-le-mul_right (down' b e) d)
  where
    up' : r * D * L ≤ (N * L + h * D) * L → N * L * L ≡ P * D → r * L * D ≤ (P + h * L) * D
    up' a e = omega arith

    down' : N * L * L ≤ (r * D + h * D) * L → N * L * L ≡ P * D → P * D ≤ (r * L + h * L) * D
    down' a e = omega arith

module _ (f : Format) (k : ℕ) (fine : 2 ^ (prec f + suc k) < 2 ^ (low f + suc (emax f))) where
  -- `mul`
  pub mul_val : (x y : Float) (a b : ℤ) → Val f x a → Val f y b → nat_abs a * nat_abs b < 2 ^ (prec f + suc k) * 2 ^ low f → (v : ℤ) × Val f (mul f x y) v × Times v a b (2 ^ low f) (2 ^ k)
  unfolding mul
  mul_val nan y a b h g small = absurd h
  mul_val (inf s) y a b h g small = absurd h
  mul_val (fin s m e) nan a b h g small = absurd g
  mul_val (fin s m e) (inf t) a b h g small = absurd g
  mul_val (fin s m e) (fin t n d) a b h g small =
      let p = h.0 in
      let q = g.0 in
      let L = 2 ^ low f in
      let M = 2 ^ (prec f + suc k) in
      let N = m * numer e * (n * numer d) in
      let D = denom e * denom d in
      let d-pos : 0 < D = mul-pos (down_pos e) (down_pos d) in
      let sm : p * q < M * L = subst (λ (x : ℕ). x < M * L) (ap (λ (x : ℕ). x * nat_abs b) (ap nat_abs h.2 ∙ abs-sgn s p) ∙ ap (λ (x : ℕ). p * x) (ap nat_abs g.2 ∙ abs-sgn t q)) small in
      let sq : N * L * L ≡ p * q * D = square (m * numer e) (n * numer d) p q (denom e) (denom d) L h.1 g.1 in
      let o = round_off f (unlike s t) N D k d-pos (scaled_lt N (p * q) D L M (pow_pos (low f)) d-pos sq sm) fine in
      let w = scaled_off N (p * q) D L o.0 (2 ^ k) d-pos sq o.2 in
      let z : Times (sgn (unlike s t) o.0) (sgn s p) (sgn t q) L (2 ^ k) = times_sgn s t o.0 p q L (2 ^ k) w.0 w.1 in
      (sgn (unlike s t) o.0, val_of f (round f (unlike s t) N D) (unlike s t) o.0 o.1, subst (λ (c : ℤ). Times (sgn (unlike s t) o.0) c b L (2 ^ k)) (sym h.2) (subst (λ (c : ℤ). Times (sgn (unlike s t) o.0) (sgn s p) c L (2 ^ k)) (sym g.2) z))

-- ---- `neg` is exact
pub neg-val : (f : Format) (x : Float) (a : ℤ) → Val f x a → Val f (neg x) (neg_ℤ a)
unfolding neg
neg-val f nan a h = h
neg-val f (inf s) a h = h
neg-val f (fin s m e) a h = (h.0, h.1, ap neg_ℤ h.2 ∙ flip s h.0)
  where
    flip : (s : Bool) (n : ℕ) → neg_ℤ (sgn s n) ≡ sgn (not s) n
    flip false n = refl
    flip true zero = refl
    flip true (suc n) = refl

unlike_comm : (s t : Bool) → unlike s t ≡ unlike t s
unlike_comm true true = refl
unlike_comm true false = refl
unlike_comm false true = refl
unlike_comm false false = refl

pub mul_swap : (f : Format) (x y : Float) → mul f x y ≡ mul f y x
unfolding mul
mul_swap f nan nan = refl
mul_swap f nan (inf t) = refl
mul_swap f nan (fin t n d) = refl
mul_swap f (inf s) nan = refl
mul_swap f (inf s) (inf t) = ap inf (unlike_comm s t)
mul_swap f (inf s) (fin t n d) = ap (λ (b : Bool). cond (eqb n 0) nan (inf b)) (unlike_comm s t)
mul_swap f (fin s m e) nan = refl
mul_swap f (fin s m e) (inf t) = ap (λ (b : Bool). cond (eqb m 0) nan (inf b)) (unlike_comm s t)
mul_swap f (fin s m e) (fin t n d) =
    ap (λ (b : Bool). round f b (m * numer e * (n * numer d)) (denom e * denom d)) (unlike_comm s t)
    ∙ ap (λ (z : ℕ). round f (unlike t s) z (denom e * denom d)) (mul_comm (m * numer e) (n * numer d))
    ∙ ap (λ (z : ℕ). round f (unlike t s) (n * numer d * (m * numer e)) z) (mul_comm (denom e) (denom d))
