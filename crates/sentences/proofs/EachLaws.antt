-- One thing read for each of a list, by a loop that fills rows: what is left to read from turn i on. Assumes nothing.
use mathlib.Core.List.{List, [], ◌∷◌, ◌++◌, append_assoc, append-nil}
use mathlib.Core.Path.{◌≡◌, ap, refl, sym, ◌∙◌}
use Prim.Native.Nat.{ℕ, suc, zero, ◌+◌, ◌<◌, ◌≤◌}
use native.Mathlib.Nat.{le_of_suc-le-suc, not-suc-le-zero}
use native.Mathlib.Numerals.{add-one}
use native.Mathlib.Omega.{arith}
use lib.ListN.{drop, get_or, length, length-drop, set, take}
use lib.Seq.{drop-cons, take_all, take-suc-set}
use Rattle.bits.specs.Bits.{Bits}
use Rattle.fields.specs.Reader.{Res, bind, mapped, no, ok}
use Rattle.fields.specs.declared.error.TextureParseError.{TextureParseError}
use Rattle.sentences.specs.Compose.{GoodEach, each_with}
use Rattle.sentences.specs.ComposeReader.{read_each}

module _ {S A : Type 0} (p : S → Bits → Res A) (ss : List S) where
  -- what is left to answer after i turns that filled the rows
  pub left_of : ℕ → List A → Bits → Res (List A)
  left_of i rows b = mapped (λ (xs : List A). take i rows ++ xs) (read_each p (drop i ss) b)

  mapped_id : (m : Res (List A)) → mapped (λ (xs : List A). [] ++ xs) m ≡ m
  mapped_id (ok a r) = refl
  mapped_id (no e) = refl

  pub each_begins : (rows : List A) (b : Bits) → read_each p ss b ≡ left_of 0 rows b
  unfolding left_of
  each_begins rows b = sym (mapped_id (read_each p ss b))

  -- the turn's slot stands first among those left
  turn_is : (i : ℕ) (d : S) (rows : List A) (b : Bits) → i < length ss
      → left_of i rows b ≡ mapped (λ (xs : List A). take i rows ++ xs) (read_each p (get_or ss i d ∷ drop (suc i) ss) b)
  unfolding left_of
  turn_is i d rows b h = ap (λ (l : List S). mapped (λ (xs : List A). take i rows ++ xs) (read_each p l b)) (drop-cons ss i d h)

  pub each_stops : (i : ℕ) (d : S) (rows : List A) (b : Bits) {e : TextureParseError} → i < length ss → p (get_or ss i d) b ≡ no e → left_of i rows b ≡ no e
  each_stops i d rows b h q =
      turn_is i d rows b h
      ∙ ap (λ (m : Res A). mapped (λ (xs : List A). take i rows ++ xs) (bind m (λ a r. bind (read_each p (drop (suc i) ss) r) (λ xs r. ok (a ∷ xs) r)))) q

  shift : (f g : List A → List A) (a : A) (m : Res (List A)) → ((xs : List A) → f (a ∷ xs) ≡ g xs) → mapped f (bind m (λ xs r. ok (a ∷ xs) r)) ≡ mapped g m
  shift f g a (ok xs r) h = ap (λ (l : List A). ok l r) (h xs)
  shift f g a (no e) h = refl

  pub each_goes_on : (i : ℕ) (d : S) (rows : List A) (b : Bits) {a : A} {r : Bits} → i < length ss → i < length rows → p (get_or ss i d) b ≡ ok a r
      → left_of i rows b ≡ left_of (i + 1) (set rows i a) r
  unfolding left_of
  each_goes_on i d rows b {a} {r} h k q =
      turn_is i d rows b h
      ∙ ap (λ (m : Res A). mapped (λ (xs : List A). take i rows ++ xs) (bind m (λ a r. bind (read_each p (drop (suc i) ss) r) (λ xs r. ok (a ∷ xs) r)))) q
      ∙ shift (λ (xs : List A). take i rows ++ xs) (λ (xs : List A). take (suc i) (set rows i a) ++ xs) a (read_each p (drop (suc i) ss) r)
      (λ (xs : List A). sym (append_assoc (take i rows) (a ∷ []) xs) ∙ ap (λ (l : List A). l ++ xs) (sym (take-suc-set rows i a k)))
      ∙ ap (λ (j : ℕ). mapped (λ (xs : List A). take j (set rows i a) ++ xs) (read_each p (drop j ss) r)) (sym (add-one i))

  pub nothing : (n : ℕ) (l : List S) → length l ≤ n → drop n l ≡ []
  nothing n l h = none_left (drop n l) (omega (arith, length-drop n l))
    where
      none_left : (l : List S) → length l ≤ 0 → l ≡ []
      none_left [] h = refl
      none_left (x ∷ l) h = absurd (let z : suc (length l) ≤ 0 = h in omega arith)

  pub each_ends : (i : ℕ) (rows : List A) (b : Bits) → length ss ≤ i → length rows ≤ i → left_of i rows b ≡ ok rows b
  unfolding left_of
  each_ends i rows b h k =
      ap (λ (l : List S). mapped (λ (xs : List A). take i rows ++ xs) (read_each p l b)) (nothing i ss h)
      ∙ ap (λ (l : List A). ok l b) (append-nil (take i rows) ∙ take_all i rows k)

-- reading, then a function of each, is reading with the function
module _ {S A B : Type 0} (p : S → Bits → Res A) (f : S → A → B) where
  pub each_mapped : (ss : List S) (b : Bits) → read_each (λ (s : S) (b : Bits). mapped (f s) (p s b)) ss b ≡ mapped (each_with f ss) (read_each p ss b)
  each_mapped [] b = refl
  each_mapped (s ∷ ss) b = go (λ (r : Bits). each_mapped ss r) (p s b)
    where
      tail : (a : A) (m : Res (List A)) → bind (mapped (each_with f ss) m) (λ xs r. ok (f s a ∷ xs) r) ≡ mapped (each_with f (s ∷ ss)) (bind m (λ xs r. ok (a ∷ xs) r))
      tail a (ok xs r) = refl
      tail a (no e) = refl

      go : ((r : Bits) → read_each (λ (s : S) (b : Bits). mapped (f s) (p s b)) ss r ≡ mapped (each_with f ss) (read_each p ss r)) → (m : Res A)
          → bind (mapped (f s) m) (λ a r. bind (read_each (λ (s : S) (b : Bits). mapped (f s) (p s b)) ss r) (λ xs r. ok (a ∷ xs) r))
          ≡ mapped (each_with f (s ∷ ss)) (bind m (λ a r. bind (read_each p ss r) (λ xs r. ok (a ∷ xs) r)))
      go h (ok a r) = ap (λ (m : Res (List B)). bind m (λ xs r. ok (f s a ∷ xs) r)) (h r) ∙ tail a (read_each p ss r)
      go h (no e) = refl

-- what holds of each fellow of a good list
pub each_holds : {S A B : Type 0} (P : S → A → Type 0) (Q : B → Type 0) (f : S → A → B) → ((s : S) (a : A) → P s a → Q (f s a))
    → (ss : List S) (xs : List A) → GoodEach P ss xs → (b : B) (i : ℕ) → i < length ss → Q (get_or (each_with f ss xs) i b)
each_holds P Q f h [] xs g b i l = absurd (not-suc-le-zero l)
each_holds P Q f h (s ∷ ss) [] g b i l = absurd g
each_holds P Q f h (s ∷ ss) (x ∷ xs) g b zero l = h s x g.0
each_holds P Q f h (s ∷ ss) (x ∷ xs) g b (suc i) l = each_holds P Q f h ss xs g.1 b i (le_of_suc-le-suc l)
