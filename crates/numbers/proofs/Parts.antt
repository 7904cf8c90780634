-- Equal answers have equal parts. Assumes nothing.
use Rattle.std.proofs.Common.{ap, ◌≡◌}
use Rattle.std.specs.Prelude.{Err, IsErr, IsErrAnd, Ok, Result}

module _ {A E : Type 0} where
  or_else : A → Result A E → A
  or_else d (Ok a) = a
  or_else d (Err e) = d

  pub ok_part : {a x : A} → ◌≡◌ {A = Result A E} (Ok a) (Ok x) → a ≡ x
  unfolding or_else
  ok_part {a} h = ap (or_else a) h

  err_or : E → Result A E → E
  err_or d (Ok a) = d
  err_or d (Err e) = e

  pub err_part : {d e : E} → ◌≡◌ {A = Result A E} (Err d) (Err e) → d ≡ e
  unfolding err_or
  err_part {d} h = ap (err_or d) h

module _ {A B E : Type 0} where
  pub ok-parts : {a x : A} {b y : B} → ◌≡◌ {A = Result (A × B) E} (Ok (a, b)) (Ok (x, y)) → (a ≡ x) × (b ≡ y)
  ok-parts h =
      let p = ok_part h in
      (ap (λ (q : A × B). q.0) p, ap (λ (q : A × B). q.1) p)

-- what `?` hands on
pub err_by : {T E : Type 0} → {r : Result T E} {e : E} → IsErr r × IsErrAnd r (λ x. x ≡ e) → r ≡ Err e
err_by {T} {E} {r = Ok a} (h, g) = absurd g
err_by {T} {E} {r = Err d} (h, g) = ap Err g
