-- The answers to a field, a marker and a code by number are what is due. Assumes nothing.
use mathlib.Core.Bool.{Bool, ◌&&◌, cond, false, not, true}
use mathlib.Core.List.{List, [], ◌∷◌}
use mathlib.Core.Path.{◌≡◌, ap, refl, ◌∙◌}
use Prim.Native.Nat.{ℕ, ◌+◌}
use lib.Dec.{eqb, leb, ltb}
use lib.ListN.{get_or, length, take}
use Rattle.bits.specs.Bits.{bits_from}
use Rattle.bits.specs.Cursor.{cursor_at, in_data}
use Rattle.fields.specs.Answer.{CodeRead, field_answer, got_told, marker_answer, row_answer, rows_of}
use Rattle.fields.specs.Outcomes.{CodeDue, field_due, got_outcome, marker_due, number_said, read_as, row_due}
use Rattle.fields.specs.Reader.{Res, field, marker, no, no_code, ok}
use Rattle.fields.specs.Refusal.{figure_of, number_of}
use Rattle.fields.specs.declared.error.TextureParseError.{TextureParseError}
use Rattle.fields.specs.declared.error.TextureParseError.TheVariants.{OutOfRange, Truncated}
use Rattle.numbers.proofs.OutcomeLaws.{by_numbers}
use Rattle.numbers.specs.Outcome.{Outcome, accepted, checked, refused}
use Rattle.std.specs.Prelude.{Err, Ok, Result}
use Rattle.bits.specs.declared.cursor.Cursor.{Cursor}

-- 11, then what is read, under a map of answers that gives a refusal its number and figure
pub after_test : {R A : Type 0} (told : R → Outcome A) (fails : TextureParseError → R) → ((e : TextureParseError) → told (fails e) ≡ refused (number_of e) (figure_of e))
    → (t : Bool) (r : R) {o : Outcome A} → told r ≡ o → told (cond t r (fails OutOfRange)) ≡ checked ((t, 11) ∷ []) o
after_test told fails named t r h =
    by_numbers told fails r number_of figure_of named ((t, OutOfRange) ∷ []) (refl, tt) ∙ ap (checked ((t, 11) ∷ [])) h

module _ (d : List ℕ) where
  number-said : (m : Res ℕ) → got_outcome (got_told d m) ≡ read_as number_said d m
  number-said (ok v r) = refl
  number-said (no e) = refl

module _ (d : List ℕ) (at : ℕ) where
  pub field_due_lem : (n : ℕ) → got_outcome (field_answer d at n) ≡ field_due d at n
  field_due_lem n = go (in_data (length d) at) (leb n 32)
    where
      go : (s t : Bool) → got_outcome (cond (s && t) (got_told d (field n (bits_from d at))) (Err OutOfRange)) ≡ checked ((s, 11) ∷ (t, 11) ∷ []) (read_as number_said d (field n (bits_from d at)))
      go true true = number-said d (field n (bits_from d at))
      go true false = refl
      go false t = refl

  pub marker_due_lem : (missing : TextureParseError) → got_outcome (marker_answer d at missing) ≡ marker_due d at missing
  marker_due_lem missing = after_test got_outcome Err (λ e. refl) (in_data (length d) at) _ (number-said d (marker missing (bits_from d at)))

  pub row_due_lem : (cs ls : List ℕ) (width n : ℕ) (err : ℕ → TextureParseError) (i : ℕ) → got_outcome (row_answer d at cs ls width n err i) ≡ row_due d at cs ls width n err i
  row_due_lem cs ls width n err i = go (in_data (length d) at) (leb width 32) (eqb (length (bits_from d at)) 0) (ltb i n)
    where
      lost : TextureParseError
      lost = no_code cs ls width n err (take width (bits_from d at))

      go : (s t u v : Bool) → got_outcome (cond (s && t) (cond u (Err Truncated) (cond v (Ok (i, cursor_at (at + get_or ls i 0))) (Err lost))) (Err OutOfRange))
          ≡ checked ((s, 11) ∷ (t, 11) ∷ (not u, 1) ∷ []) (cond v (accepted (i, at + get_or ls i 0)) (refused (number_of lost) (figure_of lost)))
      go true true true v = refl
      go true true false true = refl
      go true true false false = refl
      go true false u v = refl
      go false t u v = refl

  -- the two clauses of a code, of the row that was found
  pub code_both : (cs ls : List ℕ) (width rows : ℕ) (err : ℕ → TextureParseError) (r : Result (ℕ × Cursor) TextureParseError) → CodeRead d at cs ls width rows err r
      → CodeRead d at cs ls width rows err r × CodeDue d at cs ls width rows err (got_outcome r)
  code_both cs ls width rows err r x = (x, (x.0, (x.1.0, ap got_outcome x.1.1 ∙ row_due_lem cs ls width (rows_of cs ls rows) err x.0)))
