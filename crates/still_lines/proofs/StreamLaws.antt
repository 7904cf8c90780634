-- Steps byte after byte write what the input's lines are answered with. Assumes nothing.
use mathlib.Core.Bool.{Bool, cond, false, true}
use mathlib.Core.List.{List, [], ◌++◌, ◌∷◌}
use mathlib.Core.Logic.{◌⊎◌, inl, inr, ⊎_elim}
use mathlib.Core.Path.{◌≡◌, ap, refl, ◌∙◌}
use Prim.Native.Nat.{ℕ, suc, ◌+◌, ◌<◌, ◌≤◌}
use native.Mathlib.Numerals.{add-one}
use native.Mathlib.Omega.{arith}
use lib.Dec.{eqb}
use lib.IntN.{ℤ}
use lib.ListN.{length, length-append, set, take}
use lib.Seq.{take-suc-set}
use borrow.Author.Tests.{eq-eqb, le-leb, lt-leb, lt-ltb, ne_eqb}
use Rattle.numbers.proofs.Fill.{lt-or-le}
use Rattle.forms.proofs.FormLaws.{line-long}
use Rattle.forms.specs.Forms.{longest, malformed}
use Rattle.still_lines.proofs.AnswerLaws.{Left, left_by}
use Rattle.lines.proofs.FedLaws.{fed_by, rest_by}
use Rattle.still_lines.proofs.LineLaws.{line_by}
use Rattle.still_lines.proofs.LineLaws as Lines
use Rattle.still_lines.specs.Lines.{lines_after, unended}
use Rattle.lines.specs.Fed.{fed_of, rest_of}
use Rattle.still_lines.specs.Steps.{count_fed, line_after, samples_fed, stepped, still_fed, store_fed, text_ended, text_fed}
use Rattle.still_lines.specs.Still.{end_said, samples_after, still_after, store_after, text_after, unopened}
use Rattle.still_lines.specs.Transcript.{transcript, written_to}
use Rattle.lines.specs.declared.fed.Fed.{Fed}
use Rattle.lines.specs.declared.fed.Fed.TheVariants.{Ended, Kept, Skipped}
use Rattle.still_lines.specs.declared.still.Still.{Still}

-- ---- n bytes of a line came, and they are held; or too many came

pub record Held (l : List ℕ) (n : ℕ) (p : List ℕ) : Type 0 where
  pub count : n ≡ length p
  pub bytes : take n l ≡ p

pub record Over (n : ℕ) (p : List ℕ) : Type 0 where
  pub count : longest < n
  pub many : longest < length p

abbrev pub State : List ℕ → ℕ → List ℕ → Type 0
State l n p = ((n ≤ longest) × Held l n p) ⊎ Over n p

fresh : (l : List ℕ) → State l 0 []
fresh l = inl (omega arith, record { count = refl; bytes = refl })

-- a byte more
module _ (l : List ℕ) (roomy : longest ≤ length l) (n b : ℕ) (p : List ℕ) where
  longer_by : length (p ++ (b ∷ [])) ≡ length p + 1
  longer_by = length-append p (b ∷ [])

  more : eqb b 10 ≡ false → State l n p → (m : ℕ) × ((fed_of n b ≡ Kept m) × State (line_after l n b) m (p ++ (b ∷ [])))
  more e (inl (h, k)) =
      ⊎_elim
      (λ (a : n < longest). (
        n + 1,
        (
          fed_by n b false true e (le-leb n longest h),
          inl (omega arith, record { count = omega (arith, k.count, longer_by); bytes = held a (line_by l n b false true e (lt-ltb n longest a)) }),
        ),
      ))
      (λ (a : longest ≤ n).
      (n + 1, (fed_by n b false true e (le-leb n longest h), inr (record { count = omega arith; many = omega (arith, longer_by, k.count) }))))
      (lt-or-le n longest)
    where
      held : n < longest → line_after l n b ≡ set l n b → take (n + 1) (line_after l n b) ≡ p ++ (b ∷ [])
      held a s =
          ap (λ (i : ℕ). take i (line_after l n b)) (add-one n) ∙ ap (take (suc n)) s ∙ take-suc-set l n b (omega arith) ∙ ap (λ (q : List ℕ). q ++ (b ∷ [])) k.bytes
  more e (inr o) = (n, (fed_by n b false false e (lt-leb n longest o.count), inr (record { count = o.count; many = omega (arith, o.many, longer_by) })))

-- ---- a line that ended is answered; one that is too long is malformed, and nothing is said

module _ (s : Still) (samples store : List ℤ) where
  -- what follows of it, as of the line itself
  record Answers (l : List ℕ) (f : Fed) (p : List ℕ) : Type 0 where
    text : text_fed s l samples store f ≡ text_after s samples store p
    still : still_fed s l samples store f ≡ still_after s samples store p
    out : samples_fed s l samples store f ≡ samples_after s samples store p
    kept : store_fed s l samples store f ≡ store_after s samples store p
    zero : count_fed f ≡ 0

  skips : (l p : List ℕ) {f : Fed} → longest < length p → f ≡ Skipped → Answers l f p
  skips l p h e =
      let b : Left s samples store p malformed = left_by s samples store p malformed (line-long p h) in
      record {
        text = ap (text_fed s l samples store) e ∙ b.text_is;
        still = ap (still_fed s l samples store) e ∙ b.still_is;
        out = ap (samples_fed s l samples store) e ∙ b.samples-are;
        kept = ap (store_fed s l samples store) e ∙ b.store_is;
        zero = ap count_fed e;
      }

  ends : (l p : List ℕ) {f : Fed} {n : ℕ} → take n l ≡ p → f ≡ Ended n → Answers l f p
  ends l p h e =
      record {
        text = ap (text_fed s l samples store) e ∙ ap (text_after s samples store) h;
        still = ap (still_fed s l samples store) e ∙ ap (still_after s samples store) h;
        out = ap (samples_fed s l samples store) e ∙ ap (samples_after s samples store) h;
        kept = ap (store_fed s l samples store) e ∙ ap (store_after s samples store) h;
        zero = ap count_fed e;
      }

  -- at a newline
  newline : (l : List ℕ) (n b : ℕ) (p : List ℕ) → eqb b 10 ≡ true → State l n p → Answers (line_after l n b) (fed_of n b) p
  newline l n b p e (inl (h, j)) = ends (line_after l n b) p (ap (take n) (line_by l n b true _ e refl) ∙ j.bytes) (fed_by n b true true e (le-leb n longest h))
  newline l n b p e (inr o) = skips (line_after l n b) p o.many (fed_by n b true false e (lt-leb n longest o.count))

  -- at the end of the input
  closed : (l p : List ℕ) {f : Fed} → Answers l f p → text_ended s l samples store f ≡ text_after s samples store p ++ end_said (still_after s samples store p)
  closed l p a = λ i. a.text i ++ end_said (a.still i)

  rested : (l : List ℕ) (n : ℕ) (p : List ℕ) → State l n p → text_ended s l samples store (rest_of n) ≡ written_to s samples store (unended p)
  unfolding written_to
  rested l n [] (inl (h, j)) = ap (text_ended s l samples store) (rest_by n true _ (eq-eqb n 0 j.count) refl)
  rested l n [] (inr o) = absurd (let c = o.many in omega arith)
  rested l n (b ∷ bs) (inl (h, j)) =
      closed l (b ∷ bs) (ends l (b ∷ bs) j.bytes (rest_by n false true (ne_eqb n 0 (λ z. let c = j.count in omega arith)) (le-leb n longest h)))
  rested l n (b ∷ bs) (inr o) =
      closed l (b ∷ bs) (skips l (b ∷ bs) o.many (rest_by n false false (ne_eqb n 0 (λ z. let c = o.count in omega arith)) (lt-leb n longest o.count)))

-- ---- the whole input

-- one step more, by what was fed
abbrev onward : Still → List ℤ → List ℤ → List ℕ → List ℕ → Fed → List ℕ
onward s samples store l bs f =
    text_fed s l samples store f
    ++ stepped (still_fed s l samples store f) (count_fed f) l (samples_fed s l samples store f) (store_fed s l samples store f) bs

-- from any state of reading, the steps for some bytes write what their lines are answered with
abbrev pub Meets : List ℕ → Type 0
Meets bs =
    (s : Still) (samples store : List ℤ) (l : List ℕ) (n : ℕ) (p : List ℕ) → longest ≤ length l → State l n p
    → stepped s n l samples store bs ≡ written_to s samples store (lines_after p bs)

none_left : Meets []
unfolding stepped lines_after
none_left s samples store l n p roomy h = rested s samples store l n p h

one_more_lem : (b : ℕ) (bs : List ℕ) → Meets bs → Meets (b ∷ bs)
unfolding stepped lines_after written_to
one_more_lem b bs f s samples store l n p roomy h = go (eqb b 10) refl
  where
    still_roomy : longest ≤ length (line_after l n b)
    still_roomy = omega (arith, Lines.line-long l n b)

    newlines : Answers s samples store (line_after l n b) (fed_of n b) p
        → onward s samples store (line_after l n b) bs (fed_of n b) ≡ written_to s samples store (p ∷ lines_after [] bs)
    newlines a =
        (λ i. a.text i ++ stepped (a.still i) (a.zero i) (line_after l n b) (a.out i) (a.kept i) bs)
        ∙ ap (λ (r : List ℕ). text_after s samples store p ++ r)
        (f (still_after s samples store p) (samples_after s samples store p) (store_after s samples store p) (line_after l n b) 0 [] still_roomy (fresh (line_after l n b)))

    go : (t : Bool) → eqb b 10 ≡ t
        → onward s samples store (line_after l n b) bs (fed_of n b) ≡ written_to s samples store (cond t (p ∷ lines_after [] bs) (lines_after (p ++ (b ∷ [])) bs))
    go true e = newlines (newline s samples store l n b p e h)
    go false e =
        let w = more l roomy n b p e h in
        ap (onward s samples store (line_after l n b) bs) w.1.0 ∙ f s samples store (line_after l n b) w.0 (p ++ (b ∷ [])) still_roomy w.1.1

pub steps_are : (bs : List ℕ) → Meets bs
steps_are [] = none_left
steps_are (b ∷ bs) = one_more_lem b bs (steps_are bs)

-- from the start, whatever the lent line holds: what the steps write is the transcript
pub transcript_met : (input line : List ℕ) (samples store : List ℤ) → longest ≤ length line → stepped unopened 0 line samples store input ≡ transcript samples store input
transcript_met input line samples store h = steps_are input unopened samples store line 0 [] h (fresh line)
