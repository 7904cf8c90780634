-- The integers for `omega`, which reads ℕ alone: an integer z is seen by its two halves, `up z` (z where z is positive, else 0)
-- and `dn z` (-z where z is negative, else 0). An order, an equation or a test of integers is one of halves (`le_out`, `le_in`, ..; the
-- set `zarith` has them all), and `Ex` carries a whole sum or product over (`ring`, `order`, `told`). Assumes nothing.
use mathlib.Core.Bool.{cond, Bool, false, true}
use mathlib.Core.Path.{◌≡◌, ap, subst, refl, ◌∙◌}
use Prim.Native.Nat.{zero, min, pred, suc, ◌+◌, ◌-◌, ◌≤◌, ◌<◌, ◌*◌, ℕ}
use native.Mathlib.Nat.{mul-le-mul_right}
use native.Mathlib.Omega.{arith}
use lib.Dec.{leb→le, lt→ltb, ltb→lt, ltb, le→leb, T}
use lib.IntN.{neg_ℤ, pos, negsuc, nat_abs, sub_ℕ, ◌-ℤ◌, ◌+ℤ◌, ◌*ℤ◌, ℤ}
use lib.Signed.{le_z, lt_z, mag, ◌<ℤ◌, ◌≤ℤ◌}
use borrow.Author.Tests.{lt-leb, ltb-false, ltb-true, leb-false, le-ltb}
use Rattle.numbers.proofs.Tests.{T_true, true-T}
pub use Rattle.numbers.specs.Halves.{dn, up}

-- ---- the halves

-- one of them is 0
pub one-half : (z : ℤ) → min (up z) (dn z) ≡ 0
one-half (pos n) = omega arith
one-half (negsuc n) = omega arith

pub abs_is : (z : ℤ) → nat_abs z ≡ up z + dn z
abs_is (pos n) = omega arith
abs_is (negsuc n) = omega arith

-- both, for `omega`'s list: `omega (arith, halves z, ..)`
pub halves : (z : ℤ) → (nat_abs z ≡ up z + dn z) × (min (up z) (dn z) ≡ 0)
halves z = (abs_is z, one-half z)

pub mag_is : (z : ℤ) → mag z ≡ up z + pred (dn z)
mag_is (pos n) = omega arith
mag_is (negsuc n) = omega arith

-- ---- orders and equations, out to halves and in from them

pub le_out : {a b : ℤ} → a ≤ℤ b → up a + dn b ≤ up b + dn a
le_out {a} {b} h = go a b h.le
  where
    go : (a b : ℤ) → T (le_z a b) → up a + dn b ≤ up b + dn a
    go (pos a) (pos b) t = omega (arith, leb→le a b t)
    go (pos a) (negsuc b) t = absurd t
    go (negsuc a) (pos b) t = omega arith
    go (negsuc a) (negsuc b) t = omega (arith, leb→le b a t)

pub lt_out : {a b : ℤ} → a <ℤ b → up a + dn b < up b + dn a
lt_out {a} {b} h = go a b h.lt
  where
    go : (a b : ℤ) → T (lt_z a b) → up a + dn b < up b + dn a
    go (pos a) (pos b) t = omega (arith, ltb→lt a b t)
    go (pos a) (negsuc b) t = absurd t
    go (negsuc a) (pos b) t = omega arith
    go (negsuc a) (negsuc b) t = omega (arith, ltb→lt b a t)

pub le_in : {a b : ℤ} → up a + dn b ≤ up b + dn a → a ≤ℤ b
le_in {a} {b} h = record { le = go a b h }
  where
    go : (a b : ℤ) → up a + dn b ≤ up b + dn a → T (le_z a b)
    go (pos a) (pos b) h = le→leb a b (omega arith)
    go (pos a) (negsuc b) h = let z : ◌≡◌ {A = ℕ} 0 1 = omega arith in absurd (omega arith)
    go (negsuc a) (pos b) h = tt
    go (negsuc a) (negsuc b) h = le→leb b a (omega arith)

pub lt_in : {a b : ℤ} → up a + dn b < up b + dn a → a <ℤ b
lt_in {a} {b} h = record { lt = go a b h }
  where
    go : (a b : ℤ) → up a + dn b < up b + dn a → T (lt_z a b)
    go (pos a) (pos b) h = lt→ltb a b (omega arith)
    go (pos a) (negsuc b) h = absurd (omega arith)
    go (negsuc a) (pos b) h = tt
    go (negsuc a) (negsuc b) h = lt→ltb b a (omega arith)

pub eq-out : {a b : ℤ} → a ≡ b → up a + dn b ≡ up b + dn a
eq-out {a} {b} e = subst (λ (z : ℤ). up a + dn z ≡ up z + dn a) e refl

pub eq_in : {a b : ℤ} → up a + dn b ≡ up b + dn a → a ≡ b
eq_in {a = pos a} {b = pos b} h = ap pos (omega arith)
eq_in {a = pos a} {b = negsuc b} h = absurd (omega arith)
eq_in {a = negsuc a} {b = pos b} h = absurd (omega arith)
eq_in {a = negsuc a} {b = negsuc b} h = ap negsuc (omega arith)

-- ---- the halves of a result

pub neg-up : (z : ℤ) → up (neg_ℤ z) ≡ dn z
neg-up (pos zero) = refl
neg-up (pos (suc n)) = refl
neg-up (negsuc n) = refl

pub neg-dn : (z : ℤ) → dn (neg_ℤ z) ≡ up z
neg-dn (pos zero) = refl
neg-dn (pos (suc n)) = refl
neg-dn (negsuc n) = refl

sub_is : (a b : ℕ) → up (sub_ℕ a b) + b ≡ dn (sub_ℕ a b) + a
sub_is a b = go (ltb a b) refl
  where
    go : (t : Bool) → ltb a b ≡ t → up (cond t (negsuc (b - suc a)) (pos (a - b))) + b ≡ dn (cond t (negsuc (b - suc a)) (pos (a - b))) + a
    go true e = omega (arith, ltb-true a b e)
    go false e = omega (arith, ltb-false a b e)

-- up and dn of a sum are its summands', less what cancels
pub add_is : (a b : ℤ) → up (a +ℤ b) + (dn a + dn b) ≡ dn (a +ℤ b) + (up a + up b)
add_is (pos a) (pos b) = omega arith
add_is (pos a) (negsuc b) = omega (arith, sub_is a (suc b))
add_is (negsuc a) (pos b) = omega (arith, sub_is b (suc a))
add_is (negsuc a) (negsuc b) = omega arith

pub diff_is : (a b : ℤ) → up (a -ℤ b) + (dn a + up b) ≡ dn (a -ℤ b) + (up a + dn b)
diff_is a b = omega (arith, add_is a (neg_ℤ b), neg-up b, neg-dn b)

pub mul-up : (a b : ℤ) → up (a *ℤ b) ≡ up a * up b + dn a * dn b
mul-up (pos a) (pos b) = omega arith
mul-up (pos a) (negsuc b) = neg-up (pos (a * suc b)) ∙ omega arith
mul-up (negsuc a) (pos b) = neg-up (pos (suc a * b)) ∙ omega arith
mul-up (negsuc a) (negsuc b) = omega arith

pub mul-dn : (a b : ℤ) → dn (a *ℤ b) ≡ up a * dn b + dn a * up b
mul-dn (pos a) (pos b) = omega arith
mul-dn (pos a) (negsuc b) = neg-dn (pos (a * suc b)) ∙ omega arith
mul-dn (negsuc a) (pos b) = neg-dn (pos (suc a * b)) ∙ omega arith
mul-dn (negsuc a) (negsuc b) = omega arith

-- ---- a sum or a product as a whole: its positive part and its negative part, polynomials in the halves of what stands in it

infixl 60 ◌⊕◌ ◌⊝◌
infixl 70 ◌⊗◌
pub data Ex : Type 0 where
  var : ℤ → Ex
  nat : ℕ → Ex
  ◌⊕◌ : Ex → Ex → Ex
  ◌⊝◌ : Ex → Ex → Ex
  ◌⊗◌ : Ex → Ex → Ex
  neg : Ex → Ex

abbrev pub den : Ex → ℤ
den (var z) = z
den (nat n) = pos n
den (x ⊕ y) = den x +ℤ den y
den (x ⊝ y) = den x -ℤ den y
den (x ⊗ y) = den x *ℤ den y
den (neg x) = neg_ℤ (den x)

abbrev mutual
  pub pp : Ex → ℕ
  pp (var z) = up z
  pp (nat n) = n
  pp (x ⊕ y) = pp x + pp y
  pp (x ⊝ y) = pp x + mm y
  pp (x ⊗ y) = pp x * pp y + mm x * mm y
  pp (neg x) = mm x

  pub mm : Ex → ℕ
  mm (var z) = dn z
  mm (nat n) = 0
  mm (x ⊕ y) = mm x + mm y
  mm (x ⊝ y) = mm x + pp y
  mm (x ⊗ y) = pp x * mm y + mm x * pp y
  mm (neg x) = pp x

mul-sound : (a b : ℤ) (p m q n : ℕ) → up a + m ≡ dn a + p → up b + n ≡ dn b + q → up (a *ℤ b) + (p * n + m * q) ≡ dn (a *ℤ b) + (p * q + m * n)
mul-sound a b p m q n e f =
    omega (arith, mul-up a b, mul-dn a b, ap (λ (t : ℕ). t * up b) e, ap (λ (t : ℕ). t * dn b) e, ap (λ (t : ℕ). p * t) f, ap (λ (t : ℕ). m * t) f)

pub sound : (x : Ex) → up (den x) + mm x ≡ dn (den x) + pp x
sound (var z) = omega arith
sound (nat n) = omega arith
sound (x ⊕ y) = omega (arith, add_is (den x) (den y), sound x, sound y)
sound (x ⊝ y) = omega (arith, diff_is (den x) (den y), sound x, sound y)
sound (x ⊗ y) = mul-sound (den x) (den y) (pp x) (mm x) (pp y) (mm y) (sound x) (sound y)
sound (neg x) = omega (arith, neg-up (den x), neg-dn (den x), sound x)

-- an equation, an order of two such terms: a goal of ℕ, which `omega arith` closes, its products multiplied out
pub ring : (x y : Ex) → pp x + mm y ≡ pp y + mm x → den x ≡ den y
ring x y h = eq_in (omega (arith, sound x, sound y))

pub order : (x y : Ex) → pp x + mm y ≤ pp y + mm x → den x ≤ℤ den y
order x y h = le_in (omega (arith, sound x, sound y))

pub order< : (x y : Ex) → pp x + mm y < pp y + mm x → den x <ℤ den y
order< x y h = lt_in (omega (arith, sound x, sound y))

-- and what a hypothesis says
pub told : (x y : Ex) → den x ≤ℤ den y → pp x + mm y ≤ pp y + mm x
told x y h = omega (arith, sound x, sound y, le_out h)

pub told< : (x y : Ex) → den x <ℤ den y → pp x + mm y < pp y + mm x
told< x y h = omega (arith, sound x, sound y, lt_out h)

pub told≡ : (x y : Ex) → den x ≡ den y → pp x + mm y ≡ pp y + mm x
told≡ x y h = omega (arith, sound x, sound y, eq-out h)

-- ---- the laws that IntN lacks

pub *ℤ-assoc : (a b c : ℤ) → (a *ℤ b) *ℤ c ≡ a *ℤ (b *ℤ c)
*ℤ-assoc a b c = ring (var a ⊗ var b ⊗ var c) (var a ⊗ (var b ⊗ var c)) (omega arith)

pub *ℤ-+ℤ : (a b c : ℤ) → a *ℤ (b +ℤ c) ≡ a *ℤ b +ℤ a *ℤ c
*ℤ-+ℤ a b c = ring (var a ⊗ (var b ⊕ var c)) (var a ⊗ var b ⊕ var a ⊗ var c) (omega arith)

pub +ℤ-*ℤ : (a b c : ℤ) → (a +ℤ b) *ℤ c ≡ a *ℤ c +ℤ b *ℤ c
+ℤ-*ℤ a b c = ring ((var a ⊕ var b) ⊗ var c) (var a ⊗ var c ⊕ var b ⊗ var c) (omega arith)

pub *ℤ--ℤ : (a b c : ℤ) → a *ℤ (b -ℤ c) ≡ a *ℤ b -ℤ a *ℤ c
*ℤ--ℤ a b c = ring (var a ⊗ (var b ⊝ var c)) (var a ⊗ var b ⊝ var a ⊗ var c) (omega arith)

pub negℤ-*ℤ : (a b : ℤ) → neg_ℤ a *ℤ b ≡ neg_ℤ (a *ℤ b)
negℤ-*ℤ a b = ring (neg (var a) ⊗ var b) (neg (var a ⊗ var b)) (omega arith)

pub *ℤ-left_comm : (a b c : ℤ) → a *ℤ (b *ℤ c) ≡ b *ℤ (a *ℤ c)
*ℤ-left_comm a b c = ring (var a ⊗ (var b ⊗ var c)) (var b ⊗ (var a ⊗ var c)) (omega arith)

pub +ℤ-left_comm : (a b c : ℤ) → a +ℤ (b +ℤ c) ≡ b +ℤ (a +ℤ c)
+ℤ-left_comm a b c = ring (var a ⊕ (var b ⊕ var c)) (var b ⊕ (var a ⊕ var c)) (omega arith)

-- ---- the orders' laws

pub ≤ℤ-trans : {a b c : ℤ} → a ≤ℤ b → b ≤ℤ c → a ≤ℤ c
≤ℤ-trans h k = le_in (omega (arith, le_out h, le_out k))

pub ≤ℤ-<ℤ-trans : {a b c : ℤ} → a ≤ℤ b → b <ℤ c → a <ℤ c
≤ℤ-<ℤ-trans h k = lt_in (omega (arith, le_out h, lt_out k))

pub <ℤ-≤ℤ : {a b : ℤ} → a <ℤ b → a ≤ℤ b
<ℤ-≤ℤ h = le_in (omega (arith, lt_out h))

pub ≤ℤ-antisym : {a b : ℤ} → a ≤ℤ b → b ≤ℤ a → a ≡ b
≤ℤ-antisym h k = eq_in (omega (arith, le_out h, le_out k))

pub +ℤ-mono : {a b c d : ℤ} → a ≤ℤ b → c ≤ℤ d → (a +ℤ c) ≤ℤ (b +ℤ d)
+ℤ-mono {a} {b} {c} {d} h k = order (var a ⊕ var c) (var b ⊕ var d) (omega (arith, le_out h, le_out k))

pub negℤ-mono : {a b : ℤ} → a ≤ℤ b → neg_ℤ b ≤ℤ neg_ℤ a
negℤ-mono {a} {b} h = order (neg (var b)) (neg (var a)) (omega (arith, le_out h))

pub *ℤ-mono : {a b c : ℤ} → a ≤ℤ b → pos 0 ≤ℤ c → (a *ℤ c) ≤ℤ (b *ℤ c)
*ℤ-mono {a} {b} {c = pos n} h p = order (var a ⊗ nat n) (var b ⊗ nat n) (omega (arith, mul-le-mul_right n (le_out h)))
*ℤ-mono {a} {b} {c = negsuc n} h p = absurd p.le

-- ---- tests, as the flags have them: `lt_z a b ≡ true`

pub lt-true : (a b : ℤ) → lt_z a b ≡ true → a <ℤ b
lt-true a b e = record { lt = true-T (lt_z a b) e }

pub le-true : (a b : ℤ) → le_z a b ≡ true → a ≤ℤ b
le-true a b e = record { le = true-T (le_z a b) e }

pub lt-false : (a b : ℤ) → lt_z a b ≡ false → b ≤ℤ a
lt-false a b e = le_in (go a b e)
  where
    go : (a b : ℤ) → lt_z a b ≡ false → up b + dn a ≤ up a + dn b
    go (pos a) (pos b) e = omega (arith, ltb-false a b e)
    go (pos a) (negsuc b) e = omega arith
    go (negsuc a) (pos b) e = absurd (subst (λ (b : Bool). T b) e tt)
    go (negsuc a) (negsuc b) e = omega (arith, ltb-false b a e)

pub le-false : (a b : ℤ) → le_z a b ≡ false → b <ℤ a
le-false a b e = lt_in (go a b e)
  where
    go : (a b : ℤ) → le_z a b ≡ false → up b + dn a < up a + dn b
    go (pos a) (pos b) e = omega (arith, leb-false a b e)
    go (pos a) (negsuc b) e = omega arith
    go (negsuc a) (pos b) e = absurd (subst (λ (b : Bool). T b) e tt)
    go (negsuc a) (negsuc b) e = omega (arith, leb-false b a e)

-- and the test from the order, for a definition that goes by `lt_z`, `le_z`
pub lt_lt_z : (a b : ℤ) → a <ℤ b → lt_z a b ≡ true
lt_lt_z a b h = T_true (lt_z a b) h.lt

pub le_le_z : (a b : ℤ) → a ≤ℤ b → le_z a b ≡ true
le_le_z a b h = T_true (le_z a b) h.le

pub le_lt_z : (a b : ℤ) → b ≤ℤ a → lt_z a b ≡ false
le_lt_z a b h = go a b (le_out h)
  where
    go : (a b : ℤ) → up b + dn a ≤ up a + dn b → lt_z a b ≡ false
    go (pos a) (pos b) h = le-ltb a b (omega arith)
    go (pos a) (negsuc b) h = refl
    go (negsuc a) (pos b) h = absurd (omega arith)
    go (negsuc a) (negsuc b) h = le-ltb b a (omega arith)

pub lt_le_z : (a b : ℤ) → b <ℤ a → le_z a b ≡ false
lt_le_z a b h = go a b (lt_out h)
  where
    go : (a b : ℤ) → up b + dn a < up a + dn b → le_z a b ≡ false
    go (pos a) (pos b) h = lt-leb a b (omega arith)
    go (pos a) (negsuc b) h = refl
    go (negsuc a) (pos b) h = absurd (omega arith)
    go (negsuc a) (negsuc b) h = lt-leb b a (omega arith)

-- ---- one set for `omega`: it reads the orders, the equations and the flags of integers among the hypotheses, and proves an order or an equation.
-- Of a sum it is told by `add_is a b`, of a difference by `diff_is a b`, of a magnitude by `halves z`: `omega (zarith, add_is a b, halves z)`

pub lt_yes : (a b : ℤ) → lt_z a b ≡ true → up a + dn b < up b + dn a
lt_yes a b e = lt_out (lt-true a b e)

pub lt_no : (a b : ℤ) → lt_z a b ≡ false → up b + dn a ≤ up a + dn b
lt_no a b e = le_out (lt-false a b e)

pub le_yes : (a b : ℤ) → le_z a b ≡ true → up a + dn b ≤ up b + dn a
le_yes a b e = le_out (le-true a b e)

pub le-no : (a b : ℤ) → le_z a b ≡ false → up b + dn a < up a + dn b
le-no a b e = lt_out (le-false a b e)

pub ruleset zarith = (arith, le_out, lt_out, eq-out, le_in, lt_in, eq_in, lt_yes, lt_no, le_yes, le-no)
