-- Products of whole numbers in floating point: each is the whole number's float while the format counts that far, and 0 added makes -0 a 0. Assumes nothing.
use mathlib.Core.Bool.{Bool, true, false, cond, ◌&&◌}
use mathlib.Core.Path.{◌≡◌, refl, sym, ap, ◌∙◌, subst}
use Prim.Native.Nat.{ℕ, zero, suc, ◌+◌, ◌-◌, ◌*◌, ◌^◌, ◌≤◌, ◌<◌}
use native.Mathlib.Nat.{le_of_eq, le_trans, lt_of_le_of_lt, mul-le-mul, mul-mul-mul_comm, mul-one, mul-pos, zero-lt-suc, zero-mul}
use native.Mathlib.Omega.{arith}
use lib.Dec.{T, ltb, lit<, lit≤, le→leb, lt→ltb}
use lib.Ieee.{Float, nan, inf, fin, Format, prec, binary32, unlike, up, down, add, in_float, in_signed, mul, of_bits, of_int, round, sum, to_signed}
use lib.Ieee.Back.{negative_back, positive_back, round_whole}
use lib.Ieee.Exact.{HasValue}
use lib.Ieee.Fits.{down_pos}
use lib.Ieee.Scale.{round_same}
use lib.IntN.{ℤ, pos, negsuc, neg_ℤ, nat_abs, ◌*ℤ◌}
use borrow.Author.Tests.{le-ltb, lt-ltb}
use Rattle.numbers.proofs.Magnitudes.{abs-mul}

-- ---- a whole number by its sign and its size
abbrev minus : ℤ → Bool
minus (pos n) = false
minus (negsuc n) = true

abbrev signed : Bool → ℕ → ℤ
signed false n = pos n
signed true n = neg_ℤ (pos n)

signed_is : (z : ℤ) → z ≡ signed (minus z) (nat_abs z)
signed_is (pos n) = refl
signed_is (negsuc n) = refl

times : (s : Bool) (a b : ℕ) → signed s a *ℤ pos b ≡ signed s (a * b)
times false a b = refl
times true zero b = ap pos (zero-mul b) ∙ sym (ap (λ (n : ℕ). neg_ℤ (pos n)) (zero-mul b))
times true (suc a) b = refl

like : (s : Bool) → unlike s false ≡ s
like false = refl
like true = refl

-- ---- the operations, in a format that is a variable
module _ (f : Format) where
  int_value : (z : ℤ) → nat_abs z ≤ 2 ^ prec f → HasValue (of_int f z) (minus z) (nat_abs z) 1
  unfolding of_int
  int_value (pos n) h = round_whole f false n h
  int_value (negsuc n) h = round_whole f true (suc n) h

  mul-whole : (x y : Float) (s t : Bool) (a b : ℕ) → HasValue x s a 1 → HasValue y t b 1 → mul f x y ≡ round f (unlike s t) (a * b) 1
  unfolding mul
  mul-whole nan y s t a b h g = absurd h
  mul-whole (inf r) y s t a b h g = absurd h
  mul-whole (fin r m e) nan s t a b h g = absurd g
  mul-whole (fin r m e) (inf u) s t a b h g = absurd g
  mul-whole (fin r m e) (fin u n d) s t a b h g =
      (λ i. round f (unlike (h.0 i) (g.0 i)) (m * up e * (n * up d)) (down e * down d))
      ∙ round_same f (unlike s t) (m * up e * (n * up d)) (down e * down d) (a * b) 1 (mul-pos (down_pos e) (down_pos d)) (zero-lt-suc 0)
      (mul-one (m * up e * (n * up d)) ∙ (λ i. (sym (mul-one (m * up e)) ∙ h.1) i * (sym (mul-one (n * up d)) ∙ g.1) i) ∙ mul-mul-mul_comm a (down e) b (down d))

  -- a whole number with a natural one
  mul_natural : (x : Float) (s : Bool) (a b : ℕ) → b ≤ 2 ^ prec f → HasValue x s a 1 → mul f x (of_int f (pos b)) ≡ round f s (a * b) 1
  mul_natural x s a b k h = mul-whole x (of_int f (pos b)) s false a b h (int_value (pos b) k) ∙ ap (λ (t : Bool). round f t (a * b) 1) (like s)

  -- 0 is added: the sign goes where the number is 0
  sum-zero : (s : Bool) (A C a : ℕ) → 0 < C → A ≡ a * C → sum f s A false 0 C ≡ round f (s && ltb 0 a) a 1
  unfolding sum
  sum-zero false A C a c h = round_same f false (A + 0) C a 1 c (zero-lt-suc 0) (omega arith)
  sum-zero true A C zero c h =
      let e : A ≡ 0 = h ∙ zero-mul C in
      ap (λ (n : ℕ). cond (ltb n 0) (round f false (0 - n) C) (round f (ltb 0 n) (n - 0) C)) e
      ∙ round_same f false 0 C 0 1 c (zero-lt-suc 0) (omega arith)
  sum-zero true A C (suc a) c h =
      let p : 0 < A = subst (λ (n : ℕ). 0 < n) (sym h) (mul-pos (zero-lt-suc a) c) in
      (λ i. cond (le-ltb A 0 (omega arith) i) (round f false (0 - A) C) (round f (lt-ltb 0 A p i) (A - 0) C))
      ∙ round_same f true (A - 0) C (suc a) 1 c (zero-lt-suc 0) (omega arith)
      ∙ (λ i. round f (sym (lt-ltb 0 (suc a) (zero-lt-suc a)) i) (suc a) 1)

  add_nothing : (x : Float) (s : Bool) (a : ℕ) → HasValue x s a 1 → add f x (fin false 0 (pos 0)) ≡ round f (s && ltb 0 a) a 1
  unfolding add
  add_nothing nan s a h = absurd h
  add_nothing (inf r) s a h = absurd h
  add_nothing (fin r m e) s a h =
      (λ i. sum f (h.0 i) (h.1 i) false (zero-mul (down e) i) (mul-one (down e) i))
      ∙ sum-zero s (a * down e) (down e) a (down_pos e) refl

  -- and it is the float of the whole number
  int_of : (s : Bool) (a : ℕ) → round f (s && ltb 0 a) a 1 ≡ of_int f (signed s a)
  unfolding of_int
  int_of false a = refl
  int_of true zero = refl
  int_of true (suc a) = ap (λ (t : Bool). round f t (suc a) 1) (lt-ltb 0 (suc a) (zero-lt-suc a))

  product_whole : (z : ℤ) (w q : ℕ) → nat_abs z ≤ 2 ^ prec f → w ≤ 2 ^ prec f → q ≤ 2 ^ prec f → nat_abs z * w ≤ 2 ^ prec f → nat_abs z * w * q ≤ 2 ^ prec f
      → add f (mul f (mul f (of_int f z) (of_int f (pos w))) (of_int f (pos q))) (fin false 0 (pos 0)) ≡ of_int f (z *ℤ pos w *ℤ pos q)
  product_whole z w q hz hw hq h₁ h₂ =
      let s = minus z in
      let a = nat_abs z in
      let first = mul_natural (of_int f z) s a w hw (int_value z hz) in
      let second = ap (λ (x : Float). mul f x (of_int f (pos q))) first ∙ mul_natural (round f s (a * w) 1) s (a * w) q hq (round_whole f s (a * w) h₁) in
      let is : z *ℤ pos w *ℤ pos q ≡ signed s (a * w * q) = ap (λ (x : ℤ). x *ℤ pos w *ℤ pos q) (signed_is z) ∙ ap (λ (x : ℤ). x *ℤ pos q) (times s a w) ∙ times s (a * w) q in
      ap (λ (x : Float). add f x (fin false 0 (pos 0))) second
      ∙ add_nothing (round f s (a * w * q) 1) s (a * w * q) (round_whole f s (a * w * q) h₂)
      ∙ int_of s (a * w * q) ∙ ap (of_int f) (sym is)

-- ---- casts of a whole number up to 2 ^ 24 in size
pub in_float_lem : (z : ℤ) → nat_abs z ≤ 16777216 → T (in_float binary32 z)
unfolding in_float
in_float_lem (pos n) h = le→leb n 16777216 h
in_float_lem (negsuc n) h = lt→ltb n 16777216 h

cast_back : (z : ℤ) → nat_abs z ≤ 16777216 → T (in_signed binary32 31 (of_int binary32 z)) × (to_signed 31 (of_int binary32 z) ≡ z)
cast_back (pos n) h = positive_back binary32 31 n (in_float_lem (pos n) h) (lt_of_le_of_lt h (lit< tt))
cast_back (negsuc n) h = negative_back binary32 31 n (in_float_lem (negsuc n) h) (le_trans h (lit≤ tt))

-- ---- a level, a weight and a quantiser: below 2 ^ 24
abbrev pub product_f : ℤ → ℕ → ℕ → Float
product_f z w q = add binary32 (mul binary32 (mul binary32 (of_int binary32 z) (of_int binary32 (pos w))) (of_int binary32 (pos q))) (of_bits binary32 0)

module _ (z : ℤ) (w q : ℕ) (hz : nat_abs z ≤ 2048) (hw : w ≤ 255) (hq : q ≤ 31) where
  two : nat_abs z * w ≤ 522240
  two = mul-le-mul hz hw

  three : nat_abs z * w * q ≤ 16189440
  three = mul-le-mul two hq

  pub product_small : nat_abs (z *ℤ pos w *ℤ pos q) ≤ 16189440
  product_small = le_trans (le_of_eq (abs-mul (z *ℤ pos w) (pos q) ∙ ap (λ (n : ℕ). n * q) (abs-mul z (pos w)))) three

  product_is : product_f z w q ≡ of_int binary32 (z *ℤ pos w *ℤ pos q)
  unfolding of_bits
  product_is = product_whole binary32 z w q (le_trans hz (lit≤ tt)) (le_trans hw (lit≤ tt)) (le_trans hq (lit≤ tt)) (le_trans two (lit≤ tt)) (le_trans three (lit≤ tt))

  pub product_casts : T (in_signed binary32 31 (product_f z w q))
  product_casts = subst (λ (x : Float). T (in_signed binary32 31 x)) (sym product_is) (cast_back (z *ℤ pos w *ℤ pos q) (le_trans product_small (lit≤ tt))).0

  pub product_cast : to_signed 31 (product_f z w q) ≡ z *ℤ pos w *ℤ pos q
  product_cast = ap (to_signed 31) product_is ∙ (cast_back (z *ℤ pos w *ℤ pos q) (le_trans product_small (lit≤ tt))).1
