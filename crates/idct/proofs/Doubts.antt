-- One test for a block: the greatest square of a distance from a whole number is well within that of a half only if each square is. Assumes nothing.
use mathlib.Core.Bool.{Bool, true, false, cond}
use mathlib.Core.List.{List}
use mathlib.Core.Logic.{◌⊎◌, ⊎_elim}
use mathlib.Core.Path.{◌≡◌, refl, sym, ap, ◌∙◌, subst}
use Prim.Native.Nat.{ℕ, ◌*◌, ◌<◌}
use native.Mathlib.Omega.{arith}
use lib.Ieee.{Float, nan, binary64, lt, mul, of_bits, sub, to_signed}
use lib.Ieee.Bits.{is_true}
use lib.IntN.{ℤ, pos}
use lib.ListN.{get_or, length}
use Rattle.numbers.proofs.Every.{every_fails}
use Rattle.numbers.proofs.Fill.{build-eq, get_or-build, length-build}
use Rattle.numbers.specs.Every.{every}
use Rattle.numbers.specs.Grid.{build}
use Rattle.numbers.specs.Limit.{clamp_z}
use Rattle.f64_error.proofs.Binary64.{lt-is, lt_shown, nlt_is, zero_is}
use Rattle.f64_error.proofs.Grains.{grain}
use Rattle.f64_error.specs.Series.{half}
use Rattle.f64_error.specs.Units.{Is}
use Rattle.rounding.specs.Rounding.{whole_of}
use Rattle.rounding.specs.Near.{Roundable, Sure, near_f, near_z, square_f, well_within_square}
use Rattle.rounding.specs.declared.HalfIntegerRounding.{HalfIntegerRounding}
use Rattle.rounding.proofs.Floors.{cast_fine, near-size}
use Rattle.rounding.proofs.Literals.{zero_bits}
use Rattle.rounding.proofs.Settled.{gap_square, well_square_is}
use Rattle.eights.specs.Eights.{greater_f}
use Rattle.idct.specs.ShortWays.{Castable}

abbrev Finite : Float → Type 0
Finite x = (v : ℤ) × Is x v

-- ---- a row of sums

module _ (sum : ℕ → Float) (sums : List Float) (s : sums ≡ build 8 sum) where
  pub sum_at : (x : ℕ) → x < 8 → get_or sums x nan ≡ sum x
  sum_at x q = ap (λ (l : List Float). get_or l x nan) s ∙ get_or-build 8 sum x nan q

  pub row_bounded : ((x : ℕ) → x < 8 → Roundable (mul binary64 half (sum x))) → (x : ℕ) → x < 8 → Roundable (mul binary64 half (get_or sums x nan))
  row_bounded b x q = subst (λ (z : Float). Roundable (mul binary64 half z)) (sym (sum_at x q)) (b x q)

  -- by the rule
  pub row_ruled : (m : HalfIntegerRounding) (lo hi : ℤ) (row : List ℤ) → row ≡ build 8 (λ (x : ℕ). clamp_z (whole_of m (mul binary64 half (get_or sums x nan))) lo hi)
      → row ≡ build 8 (λ (x : ℕ). clamp_z (whole_of m (mul binary64 half (sum x))) lo hi)
  row_ruled m lo hi row e =
      e
      ∙ build-eq 8 (λ (x : ℕ). clamp_z (whole_of m (mul binary64 half (get_or sums x nan))) lo hi) (λ (x : ℕ). clamp_z (whole_of m (mul binary64 half (sum x))) lo hi)
      (λ (x : ℕ) (q : x < 8). ap (λ (z : Float). clamp_z (whole_of m (mul binary64 half z)) lo hi) (sum_at x q))

-- ---- the same, to near numbers

module _ (sum : ℕ → Float) (sums near : List Float) (s : sums ≡ build 8 sum) (n : near ≡ build 8 (λ (x : ℕ). near_f (get_or sums x nan))) where
  near_at : (x : ℕ) → x < 8 → get_or near x nan ≡ near_f (sum x)
  near_at x q = ap (λ (l : List Float). get_or l x nan) n ∙ get_or-build 8 (λ (x : ℕ). near_f (get_or sums x nan)) x nan q ∙ ap near_f (sum_at sum sums s x q)

  pub near_castable : ((x : ℕ) → x < 8 → Roundable (sum x)) → (x : ℕ) → x < 8 → Castable (get_or near x nan)
  near_castable b x q = subst Castable (sym (near_at x q)) (cast_fine (sum x) (b x q), near-size (sum x) (b x q))

  pub near-clipped : (lo hi : ℤ) (row : List ℤ) → row ≡ build 8 (λ (x : ℕ). clamp_z (to_signed 31 (get_or near x nan)) lo hi) → row ≡ build 8 (λ (x : ℕ). clamp_z (near_z (sum x)) lo hi)
  near-clipped lo hi row e =
      e
      ∙ build-eq 8 (λ (x : ℕ). clamp_z (to_signed 31 (get_or near x nan)) lo hi) (λ (x : ℕ). clamp_z (near_z (sum x)) lo hi)
      (λ (x : ℕ) (q : x < 8). ap (λ (z : Float). clamp_z (to_signed 31 z) lo hi) (near_at x q))

-- ---- the greater of two

module _ (a b : Float) (f : Finite a) (g : Finite b) where
  greater_finite : Finite (greater_f a b)
  greater_finite = go (lt a b)
    where
      go : (t : Bool) → Finite (cond t b a)
      go true = g
      go false = f

  greater-within : lt (greater_f a b) well_within_square ≡ true → (lt a well_within_square ≡ true) × (lt b well_within_square ≡ true)
  greater-within e = go (lt a b) refl e
    where
      go : (t : Bool) → lt a b ≡ t → lt (cond t b a) well_within_square ≡ true → (lt a well_within_square ≡ true) × (lt b well_within_square ≡ true)
      go true s h =
          let p = lt-is a b f.0 g.0 f.1 g.1 s in
          let q = lt-is b well_within_square g.0 (pos (288230307432235008 * grain)) g.1 well_square_is h in
          (is_true (lt a well_within_square) (lt_shown a well_within_square f.0 (pos (288230307432235008 * grain)) f.1 well_square_is (omega arith)), h)
      go false s h =
          let p = nlt_is a b f.0 g.0 f.1 g.1 s in
          let q = lt-is a well_within_square f.0 (pos (288230307432235008 * grain)) f.1 well_square_is h in
          (h, is_true (lt b well_within_square) (lt_shown b well_within_square g.0 (pos (288230307432235008 * grain)) g.1 well_square_is (omega arith)))

-- ---- a block: the rows with D are done

pub record Cleared (value : ℕ → ℕ → Float) (D : ℕ → Type 0) (worst : List Float) : Type 0 where
  pub long : length worst ≡ 8
  pub finite : (x : ℕ) → x < 8 → Finite (get_or worst x nan)
  pub sure : (x : ℕ) → x < 8 → lt (get_or worst x nan) well_within_square ≡ true → (y : ℕ) → D y → Sure (value y x)

module _ (value : ℕ → ℕ → Float) (D : ℕ → Type 0) where
  pub cleared_none : (worst : List Float) → ((y : ℕ) → D y → ⊥) → worst ≡ build 8 (λ (x : ℕ). of_bits binary64 0) → Cleared value D worst
  cleared_none worst n e =
      record {
        long = ap length e ∙ length-build 8 (λ (x : ℕ). of_bits binary64 0);
        finite = λ x q. (pos 0, subst (λ (z : Float). Is z (pos 0)) (sym (ap (λ (l : List Float). get_or l x nan) e ∙ get_or-build 8 (λ (x : ℕ). of_bits binary64 0) x nan q ∙ zero_bits)) zero_is);
        sure = λ x q h y p. absurd (n y p);
      }

  -- one more row
  module _ (k : ℕ) (worst sums near far : List Float) (D' : ℕ → Type 0) (t : (y : ℕ) → D' y → (y ≡ k) ⊎ D y) (c : Cleared value D worst) (b : (x : ℕ) → x < 8 → Roundable (value k x)) (s : (x : ℕ) → x < 8 → get_or sums x nan ≡ value k x)
      (n : near ≡ build 8 (λ (x : ℕ). near_f (get_or sums x nan)))
      (e : far ≡ build 8 (λ (x : ℕ). greater_f (get_or worst x nan) (square_f (sub binary64 (get_or sums x nan) (get_or near x nan)))))
    where
      abbrev square : ℕ → Float
      square x = square_f (sub binary64 (value k x) (near_f (value k x)))

      square-is : (x : ℕ) → x < 8 → square_f (sub binary64 (get_or sums x nan) (get_or near x nan)) ≡ square x
      square-is x q =
          ap (λ (z : Float). square_f (sub binary64 (get_or sums x nan) z)) (ap (λ (l : List Float). get_or l x nan) n ∙ get_or-build 8 (λ (x : ℕ). near_f (get_or sums x nan)) x nan q)
          ∙ ap (λ (z : Float). square_f (sub binary64 z (near_f z))) (s x q)

      square_finite : (x : ℕ) → x < 8 → Finite (square x)
      square_finite x q = gap_square (value k x) (b x q)

      far_is : (x : ℕ) → x < 8 → get_or far x nan ≡ greater_f (get_or worst x nan) (square x)
      far_is x q =
          ap (λ (l : List Float). get_or l x nan) e
          ∙ get_or-build 8 (λ (x : ℕ). greater_f (get_or worst x nan) (square_f (sub binary64 (get_or sums x nan) (get_or near x nan)))) x nan q
          ∙ ap (λ (z : Float). greater_f (get_or worst x nan) z) (square-is x q)

      sure_more : (x : ℕ) → x < 8 → lt (get_or far x nan) well_within_square ≡ true → (y : ℕ) → D' y → Sure (value y x)
      sure_more x q h y p =
          let w = greater-within (get_or worst x nan) (square x) (c.finite x q) (square_finite x q) (ap (λ (z : Float). lt z well_within_square) (sym (far_is x q)) ∙ h) in
          ⊎_elim (λ (z : y ≡ k). subst (λ (i : ℕ). Sure (value i x)) (sym z) w.1) (λ (z : D y). c.sure x q w.0 y z) (t y p)

      pub cleared_more : Cleared value D' far
      cleared_more =
          record {
            long = ap length e ∙ length-build 8 (λ (x : ℕ). greater_f (get_or worst x nan) (square_f (sub binary64 (get_or sums x nan) (get_or near x nan))));
            finite = λ x q. subst Finite (sym (far_is x q)) (greater_finite (get_or worst x nan) (square x) (c.finite x q) (square_finite x q));
            sure = sure_more;
          }

  -- the test
  pub cleared_all : (worst : List Float) (r : Bool) → Cleared value D worst → r ≡ every (λ (w : Float). lt w well_within_square) worst → r ≡ true → (y x : ℕ) → D y → x < 8 → Sure (value y x)
  cleared_all worst r c e t y x p q = c.sure x q (go (lt (get_or worst x nan) well_within_square) refl) y p
    where
      go : (b : Bool) → lt (get_or worst x nan) well_within_square ≡ b → b ≡ true
      go true g = refl
      go false g = sym (every_fails (λ (w : Float). lt w well_within_square) nan worst x (omega (arith, c.long)) g) ∙ sym e ∙ t
