-- A fraction written with a greater denominator is as near to an entry of the table, or to a cosine, as before: one denominator for all constants loses nothing. Assumes nothing.
use mathlib.Core.Bool.{Bool, true, false, cond, ◌&&◌, ◌||◌}
use mathlib.Core.Path.{◌≡◌, ap, ◌∙◌, subst, subst₂}
use Prim.Native.Nat.{ℕ, suc, ◌+◌, ◌*◌, ◌^◌, ◌≤◌, ◌<◌}
use native.Mathlib.Nat.{le_of_eq, le_trans, mul-le-mul_right, mul-pos}
use native.Mathlib.Omega.{arith}
use lib.Dec.{T}
use lib.IntN.{ℤ, pos, negsuc, neg_ℤ, nat_abs, ◌+ℤ◌, ◌-ℤ◌, ◌*ℤ◌}
use lib.Signed.{lt_z}
use mir.Facts.{and_yes, yes_and}
use Rattle.numbers.proofs.Integers.{var, nat, ◌⊕◌, ◌⊝◌, ◌⊗◌, ring, up, dn, mul-up, mul-dn, le_in, lt_in, negℤ-*ℤ, *ℤ-mono, ≤ℤ-trans}
use Rattle.numbers.proofs.Magnitudes.{abs-mul}
use Rattle.numbers.proofs.Tests.{or_left}
use Rattle.idct_laws.specs.Moved.{Moved}
use Rattle.idct_laws.specs.Roots.{Root, whole, plus, minus, at_most, at_least, double_cosine, quarter, negative, near_root, near_cosine}
use Rattle.idct_laws.proofs.RootLaws.{most_under, most_root, least_under, least_root}

-- ---- an entry of the table

pub moved_scaled : (e d f : ℕ) (c a : ℤ) → Moved e d c a → Moved e (d * f) (c *ℤ pos f) a
moved_scaled e d f c a = scaled (2 ^ 55)
  where
    turned : (P : ℕ) → c *ℤ pos f *ℤ pos P -ℤ a *ℤ pos (d * f) ≡ (c *ℤ pos P -ℤ a *ℤ pos d) *ℤ pos f
    turned P = ring (var c ⊗ nat f ⊗ nat P ⊝ var a ⊗ (nat d ⊗ nat f)) ((var c ⊗ nat P ⊝ var a ⊗ nat d) ⊗ nat f) (omega arith)

    scaled : (P : ℕ) → nat_abs (c *ℤ pos P -ℤ a *ℤ pos d) ≤ d * e → nat_abs (c *ℤ pos f *ℤ pos P -ℤ a *ℤ pos (d * f)) ≤ d * f * e
    scaled P h = le_trans (le_of_eq (ap nat_abs (turned P) ∙ abs-mul (c *ℤ pos P -ℤ a *ℤ pos d) (pos f))) (le_trans (mul-le-mul_right f h) (omega arith))

-- ---- comparison with a root

square_scaled : (s f : ℕ) → s * s * (f * f) ≡ s * f * (s * f)
square_scaled s f = omega arith

over_two : (a s f : ℕ) → (pos (a * a) -ℤ pos (2 * (s * s))) *ℤ pos (f * f) ≡ pos (a * f * (a * f)) -ℤ pos (2 * (s * f * (s * f)))
over_two a s f = ring ((nat (a * a) ⊝ nat (2 * (s * s))) ⊗ nat (f * f)) (nat (a * f * (a * f)) ⊝ nat (2 * (s * f * (s * f)))) (omega arith)

under_two : (a s f : ℕ) → (pos (2 * (s * s)) -ℤ pos (a * a)) *ℤ pos (f * f) ≡ pos (2 * (s * f * (s * f))) -ℤ pos (a * f * (a * f))
under_two a s f = ring ((nat (2 * (s * s)) ⊝ nat (a * a)) ⊗ nat (f * f)) (nat (2 * (s * f * (s * f))) ⊝ nat (a * f * (a * f))) (omega arith)

still_below : (a f : ℕ) (b : Bool) → 0 < f → T (lt_z (negsuc a *ℤ pos f) (pos 0) || b)
still_below a f b h = or_left (lt_z (negsuc a *ℤ pos f) (pos 0)) b (lt_in {a = negsuc a *ℤ pos f} {b = pos 0} (line (mul-pos {m = suc a} (omega arith) h))).lt
  where
    line : 0 < suc a * f → up (negsuc a *ℤ pos f) + 0 < 0 + dn (negsuc a *ℤ pos f)
    line p = omega (arith, mul-up (negsuc a) (pos f), mul-dn (negsuc a) (pos f))

mutual
  unfolding at_most at_least

  most_scaled : (r : Root) (n : ℤ) (s f : ℕ) → 0 < f → T (at_most n s r) → T (at_most (n *ℤ pos f) (s * f) r)
  most_scaled (whole k) n s f h t =
      (≤ℤ-trans (*ℤ-mono {a = n} {b = pos (k * s)} {c = pos f} (record { le = t }) (le_in (omega arith))) (le_in {a = pos (k * s * f)} {b = pos (k * (s * f))} (omega arith))).le
  most_scaled (plus r) (negsuc a) s f h t = still_below a f _ h
  most_scaled (plus r) (pos a) s f h t =
      let n = pos (a * a) -ℤ pos (2 * (s * s)) in
      let i = most_scaled r n (s * s) (f * f) (mul-pos h h) (most_under a (at_most n (s * s) r) t) in
      most_root (a * f) _ (subst₂ (λ (z : ℤ) (i : ℕ). T (at_most z i r)) (over_two a s f) (square_scaled s f) i)
  most_scaled (minus r) (negsuc a) s f h t = still_below a f _ h
  most_scaled (minus r) (pos a) s f h t =
      let n = pos (2 * (s * s)) -ℤ pos (a * a) in
      let i = least_scaled r n (s * s) (f * f) (mul-pos h h) (most_under a (at_least n (s * s) r) t) in
      most_root (a * f) _ (subst₂ (λ (z : ℤ) (i : ℕ). T (at_least z i r)) (under_two a s f) (square_scaled s f) i)

  least_scaled : (r : Root) (n : ℤ) (s f : ℕ) → 0 < f → T (at_least n s r) → T (at_least (n *ℤ pos f) (s * f) r)
  least_scaled (whole k) n s f h t =
      (≤ℤ-trans {a = pos (k * (s * f))} {b = pos (k * s * f)} (le_in (omega arith)) (*ℤ-mono {a = pos (k * s)} {b = n} {c = pos f} (record { le = t }) (le_in (omega arith)))).le
  least_scaled (plus r) (negsuc a) s f h t = absurd t
  least_scaled (plus r) (pos a) s f h t =
      let n = pos (a * a) -ℤ pos (2 * (s * s)) in
      let i = least_scaled r n (s * s) (f * f) (mul-pos h h) (least_under a (at_least n (s * s) r) t) in
      least_root (a * f) _ (subst₂ (λ (z : ℤ) (i : ℕ). T (at_least z i r)) (over_two a s f) (square_scaled s f) i)
  least_scaled (minus r) (negsuc a) s f h t = absurd t
  least_scaled (minus r) (pos a) s f h t =
      let n = pos (2 * (s * s)) -ℤ pos (a * a) in
      let i = most_scaled r n (s * s) (f * f) (mul-pos h h) (least_under a (at_most n (s * s) r) t) in
      least_root (a * f) _ (subst₂ (λ (z : ℤ) (i : ℕ). T (at_most z i r)) (under_two a s f) (square_scaled s f) i)

-- ---- a cosine

root_scaled : (e d f P S : ℕ) (z : ℤ) (r : Root) → 0 < f → T (at_most (z *ℤ pos P -ℤ pos (d * e)) (d * S) r && at_least (z *ℤ pos P +ℤ pos (d * e)) (d * S) r)
    → T (at_most (z *ℤ pos f *ℤ pos P -ℤ pos (d * f * e)) (d * f * S) r && at_least (z *ℤ pos f *ℤ pos P +ℤ pos (d * f * e)) (d * f * S) r)
root_scaled e d f P S z r h t =
    let n = z *ℤ pos P -ℤ pos (d * e) in
    let m = z *ℤ pos P +ℤ pos (d * e) in
    let s = d * S in
    let i = and_yes (at_most n s r) (at_least m s r) t in
    yes_and (at_most (z *ℤ pos f *ℤ pos P -ℤ pos (d * f * e)) (d * f * S) r) (at_least (z *ℤ pos f *ℤ pos P +ℤ pos (d * f * e)) (d * f * S) r)
    (subst₂ (λ (w : ℤ) (i : ℕ). T (at_most w i r)) less over (most_scaled r n s f h i.0))
    (subst₂ (λ (w : ℤ) (i : ℕ). T (at_least w i r)) more over (least_scaled r m s f h i.1))
  where
    over : d * S * f ≡ d * f * S
    over = omega arith

    less : (z *ℤ pos P -ℤ pos (d * e)) *ℤ pos f ≡ z *ℤ pos f *ℤ pos P -ℤ pos (d * f * e)
    less = ring ((var z ⊗ nat P ⊝ nat (d * e)) ⊗ nat f) (var z ⊗ nat f ⊗ nat P ⊝ nat (d * f * e)) (omega arith)

    more : (z *ℤ pos P +ℤ pos (d * e)) *ℤ pos f ≡ z *ℤ pos f *ℤ pos P +ℤ pos (d * f * e)
    more = ring ((var z ⊗ nat P ⊕ nat (d * e)) ⊗ nat f) (var z ⊗ nat f ⊗ nat P ⊕ nat (d * f * e)) (omega arith)

pub cosine_scaled : (e d f m : ℕ) (z : ℤ) → 0 < f → T (near_cosine e z d m) → T (near_cosine e (z *ℤ pos f) (d * f) m)
cosine_scaled e d f m z h = by_sign (negative m)
  where
    by_sign : (b : Bool) → T (near_root e (cond b (neg_ℤ z) z) d (double_cosine (quarter m))) → T (near_root e (cond b (neg_ℤ (z *ℤ pos f)) (z *ℤ pos f)) (d * f) (double_cosine (quarter m)))
    by_sign true t =
        subst (λ (w : ℤ). T (near_root e w (d * f) (double_cosine (quarter m)))) (negℤ-*ℤ z (pos f)) (root_scaled e d f (2 ^ 55) (2 ^ 54) (neg_ℤ z) (double_cosine (quarter m)) h t)
    by_sign false t = root_scaled e d f (2 ^ 55) (2 ^ 54) z (double_cosine (quarter m)) h t
