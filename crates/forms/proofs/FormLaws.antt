-- A form by its words: what one reading tells of it. Assumes nothing.
use mathlib.Core.Bool.{Bool, cond, false, true, true≢false, ◌&&◌}
use mathlib.Core.List.{List, [], ◌∷◌}
use mathlib.Core.Path.{◌≡◌, ◌∙◌, ap, ap₂, refl, subst, sym}
use Prim.Native.Nat.{◌%◌, ◌+◌, ◌-◌, ◌<◌, ◌≤◌, ℕ}
use native.Mathlib.Omega.{arith}
use borrow.Author.Tests.{eq-eqb, le-leb, lt-leb, ne_eqb}
use lib.Dec.{eqb, leb}
use lib.ListN.{drop, get_or, length, take}
use Rattle.numbers.specs.Every.{every}
use Rattle.forms.proofs.WordLaws.{end_le, words-none, words-some}
use Rattle.forms.specs.Forms.{Form, first_named, form_by, form_of, given, kind_in, kind_word, last, longest, malformed, mb, mb_form, mb_word, method_in, next, picture, picture_form, picture_word}
use Rattle.forms.specs.Reading.{Says, data_after, data_form, data_of, end_of, field_by, line_of, others, parsed, part, pattern_form, room_for_data, there, words_from}
use Rattle.forms.specs.Words.{bytes_of, hex_in, is_hex, number_in, same, words}
use Rattle.forms.specs.declared.kind.Kind.{Kind}
use Rattle.forms.specs.declared.kind.Kind.TheVariants.{Inter, Inter4V, InterQ, Intra, IntraQ, Missing, Skipped}
use Rattle.forms.specs.declared.line.Line.{Line}
use Rattle.forms.specs.declared.line.Line.TheVariants.{Malformed, TooShort}
use Rattle.std.specs.Prelude.{None, Some, Option}

-- ---- a number

module _ (p : List ℕ → Option ℕ) (l : List ℕ) (from to : ℕ) where
  pub says_none : to < from → Says p l from to None
  says_none h = ap (field_by p) (words-none l from to h)

  module _ (h : from ≤ to) (k : to ≤ length l) (e : ℕ) (is : e ≡ end_of l from to) where
    pub says-bad : None ≡ p (part l from e) → Says p l from to None
    says-bad r = ap (field_by p) (words-some l from to h k e is) ∙ sym r

    pub says_value : (v : ℕ) → Some v ≡ p (part l from e) → Says p l from to (Some (v, e + 1))
    says_value v r =
        let w = words-some l from to h k e is in
        (ap (field_by p) w ∙ sym r, (sym (ap others w), (omega arith, omega (arith, end_le l from to k h))))

-- ---- the next word of a form

module _ (p : List ℕ → Option ℕ) (k : ℕ → List (List ℕ) → Form) where
  next-bad : (ws : List (List ℕ)) → field_by p ws ≡ None → next p k ws ≡ malformed
  next-bad [] e = refl
  next-bad (w ∷ ws) e = ap (λ (o : Option ℕ). given o (λ (a : ℕ). k a ws)) e

  next-is : (ws : List (List ℕ)) (v : ℕ) → field_by p ws ≡ Some v → next p k ws ≡ k v (others ws)
  next-is [] v e = let z : ◌≡◌ {A = ℕ} 0 1 = cc in absurd (omega arith)
  next-is (w ∷ ws) v e = ap (λ (o : Option ℕ). given o (λ (a : ℕ). k a ws)) e

module _ (p : List ℕ → Option ℕ) (l : List ℕ) (from to : ℕ) {r : Option (ℕ × ℕ)} (says : Says p l from to r) where
  said : {s : Option (ℕ × ℕ)} → r ≡ s → Says p l from to s
  said e = subst (Says p l from to) e says

  pub field-bad : (k : ℕ → List (List ℕ) → Form) → r ≡ None → next p k (words_from l from to) ≡ malformed
  field-bad k e = next-bad p k (words_from l from to) (said e)

  module _ {v at : ℕ} (e : r ≡ Some (v, at)) where
    pub field_is : (k : ℕ → List (List ℕ) → Form) → next p k (words_from l from to) ≡ k v (words_from l at to)
    field_is k = next-is p k (words_from l from to) v (said e).0 ∙ ap (k v) (sym (said e).1.0)

    pub field_at : at ≤ to + 1
    field_at = (said e).1.1.1

-- ---- a method

method-none : (w : List ℕ) → number_in 2 w ≡ None → method_in w ≡ None
unfolding method_in
method-none w e = rw (e, method_in)

method-zero : (w : List ℕ) (v : ℕ) → number_in 2 w ≡ Some v → v ≡ 0 → method_in w ≡ None
unfolding method_in
method-zero w v e z = rw (e, method_in) (rw (eq-eqb v 0 z))

method-some : (w : List ℕ) (v : ℕ) → number_in 2 w ≡ Some v → (v ≡ 0 → ⊥) → method_in w ≡ Some v
unfolding method_in
method-some w v e z = rw (e, method_in) (rw (ne_eqb v 0 z))

-- ---- a type

-- the words for types in the order they are tried
abbrev pub kinds : List Kind
kinds = Intra ∷ IntraQ ∷ Inter ∷ InterQ ∷ Inter4V ∷ Missing ∷ Skipped ∷ []

module _ (k : Kind) (ks : List Kind) (w : List ℕ) {r : Bool} (e : r ≡ same w (kind_word k)) where
  pub named_yes : r ≡ true → first_named (k ∷ ks) w ≡ Some k
  named_yes t = ap (λ (b : Bool). cond b (Some k) (first_named ks w)) (sym e ∙ t)

  pub named_no : r ≡ false → first_named (k ∷ ks) w ≡ first_named ks w
  named_no t = ap (λ (b : Bool). cond b (Some k) (first_named ks w)) (sym e ∙ t)

-- ---- a picture's form, word after word

by_method : (k : ℕ → List (List ℕ) → Form) (ws : List (List ℕ)) (v : ℕ) (f : Form) → field_by (number_in 2) ws ≡ Some v
    → ((w : List ℕ) → number_in 2 w ≡ Some v → given (method_in w) (λ (a : ℕ). k a (others ws)) ≡ f) → next method_in k ws ≡ f
by_method k [] v f e g = let z : ◌≡◌ {A = ℕ} 0 1 = cc in absurd (omega arith)
by_method k (w ∷ ws) v f e g = g w e

module _ (l : List ℕ) (from to : ℕ) {r : Option (ℕ × ℕ)} (says : Says (number_in 2) l from to r) (k : ℕ → List (List ℕ) → Form) where
  pub no-method : r ≡ None → next method_in k (words_from l from to) ≡ malformed
  no-method e = go (words_from l from to) (subst (Says (number_in 2) l from to) e says)
    where
      go : (ws : List (List ℕ)) → field_by (number_in 2) ws ≡ None → next method_in k ws ≡ malformed
      go [] e = refl
      go (w ∷ ws) e = ap (λ (o : Option ℕ). given o (λ (a : ℕ). k a ws)) (method-none w e)

  module _ {v at : ℕ} (e : r ≡ Some (v, at)) where
    pub method_0 : v ≡ 0 → next method_in k (words_from l from to) ≡ malformed
    method_0 z =
        let t = subst (Says (number_in 2) l from to) e says in
        by_method k (words_from l from to) v malformed t.0 (λ w s. ap (λ (o : Option ℕ). given o (λ (a : ℕ). k a (others (words_from l from to)))) (method-zero w v s z))

    pub method-is : (v ≡ 0 → ⊥) → next method_in k (words_from l from to) ≡ k v (words_from l at to)
    method-is z =
        let t = subst (Says (number_in 2) l from to) e says in
        by_method k (words_from l from to) v (k v (others (words_from l from to))) t.0
        (λ w s. ap (λ (o : Option ℕ). given o (λ (a : ℕ). k a (others (words_from l from to)))) (method-some w v s z))
        ∙ ap (k v) (sym t.1.0)

-- no word more, or one
module _ (f : Form) (l : List ℕ) (at to : ℕ) where
  pub last_none : to < at → last f (words_from l at to) ≡ f
  last_none h = ap (last f) (words-none l at to h)

  pub last_more : at ≤ to → to ≤ length l → last f (words_from l at to) ≡ malformed
  last_more h k = ap (last f) (words-some l at to h k (end_of l at to) refl)

abbrev pub after_depth : ℕ → ℕ → ℕ → List (List ℕ) → Form
after_depth w h d = next method_in (λ (m : ℕ). last (picture w h d m))

abbrev pub after_height : ℕ → ℕ → List (List ℕ) → Form
after_height w h = next (number_in 65535) (λ (d : ℕ). after_depth w h d)

abbrev pub after_width : ℕ → List (List ℕ) → Form
after_width w = next (number_in 65535) (λ (h : ℕ). after_height w h)

-- ---- a macroblock's form, word after word

abbrev pub after_cbpy : ℕ → ℕ → Kind → ℕ → List (List ℕ) → Form
after_cbpy q a t y = next (number_in 255) (λ (c : ℕ). data_form q a t y c)

abbrev pub after_flag : ℕ → ℕ → List (List ℕ) → Form
after_flag q a = next kind_in (λ (t : Kind). pattern_form q a t)

abbrev pub after_quantiser : ℕ → List (List ℕ) → Form
after_quantiser q = next (number_in 1) (λ (a : ℕ). after_flag q a)

-- what is told where the line is refused, and where it is another form
pub refuses : {f : Form} (old : List ℕ) → f ≡ malformed → (Malformed ≡ line_of f) × (old ≡ data_of f old)
refuses old e = (sym (ap line_of e), sym (ap (λ (f : Form). data_of f old) e))

pub goes_on : {f g : Form} {r : Line} {new : List ℕ} (old : List ℕ) → f ≡ g → (r ≡ line_of g) × (new ≡ data_of g old) → (r ≡ line_of f) × (new ≡ data_of f old)
goes_on old e t = (t.0 ∙ sym (ap line_of e), t.1 ∙ sym (ap (λ (f : Form). data_of f old) e))

keeps : {A : Type 0} (p : List ℕ → Option A) (k : A → List (List ℕ) → Form) (old : List ℕ) → ((a : A) (ws : List (List ℕ)) → old ≡ data_of (k a ws) old)
    → (ws : List (List ℕ)) → old ≡ data_of (next p k ws) old
keeps p k old h [] = refl
keeps {A} p k old h (w ∷ ws) = go (p w)
  where
    go : (o : Option A) → old ≡ data_of (given o (λ (a : A). k a ws)) old
    go None = refl
    go (Some a) = h a ws

last_keeps : (w h d m : ℕ) (old : List ℕ) (ws : List (List ℕ)) → old ≡ data_of (last (picture w h d m) ws) old
last_keeps w h d m old [] = refl
last_keeps w h d m old (v ∷ ws) = refl

-- a picture's form keeps the data
pub picture_keeps : (ws : List (List ℕ)) (old : List ℕ) → old ≡ data_of (picture_form ws) old
unfolding picture_form
picture_keeps ws old =
    keeps (number_in 65535) after_width old
    (λ w. keeps (number_in 65535) (after_height w) old
    (λ h. keeps (number_in 65535) (after_depth w h) old (λ d. keeps method_in (λ (m : ℕ). last (picture w h d m)) old (λ m. last_keeps w h d m old)))) ws

module _ (k : Kind → List (List ℕ) → Form) (l : List ℕ) (from to : ℕ) where
  pub kind-none : to < from → next kind_in k (words_from l from to) ≡ malformed
  kind-none h = ap (next kind_in k) (words-none l from to h)

  module _ (h : from ≤ to) (in-line : to ≤ length l) (e : ℕ) (is : e ≡ end_of l from to) where
    first : next kind_in k (words_from l from to) ≡ given (kind_in (part l from e)) (λ (t : Kind). k t (words_from l (e + 1) to))
    first = ap (next kind_in k) (words-some l from to h in-line e is)

    pub kind-bad : None ≡ kind_in (part l from e) → next kind_in k (words_from l from to) ≡ malformed
    kind-bad r = first ∙ ap (λ (o : Option Kind). given o (λ (t : Kind). k t (words_from l (e + 1) to))) (sym r)

    pub kind-is : (t : Kind) → Some t ≡ kind_in (part l from e) → next kind_in k (words_from l from to) ≡ k t (words_from l (e + 1) to)
    kind-is t r = first ∙ ap (λ (o : Option Kind). given o (λ (t : Kind). k t (words_from l (e + 1) to))) (sym r)

-- ---- the data of a macroblock

hex_is : (w : List ℕ) → there (hex_in w) ≡ true → hex_in w ≡ Some (bytes_of w)
unfolding hex_in
hex_is w e = go (leb 2 (length w) && (eqb (length w % 2) 0 && every is_hex w)) e
  where
    go : (t : Bool) → there (cond t (Some (bytes_of w)) None) ≡ true → cond t (Some (bytes_of w)) None ≡ Some (bytes_of w)
    go true e = refl
    go false e = absurd (true≢false (sym e))

no_hex : (o : Option (List ℕ)) → there o ≡ false → o ≡ None
no_hex None e = refl
no_hex (Some d) e = absurd (true≢false e)

module _ (q a : ℕ) (t : Kind) (y c : ℕ) (l : List ℕ) (from to : ℕ) where
  pub data_none : to < from → data_form q a t y c (words_from l from to) ≡ malformed
  unfolding data_form
  data_none h = ap (next hex_in (λ (d : List ℕ). last (mb q a t y c d))) (words-none l from to h)

  module _ (h : from ≤ to) (in-line : to ≤ length l) (e : ℕ) (is : e ≡ end_of l from to) where
    data_first : data_form q a t y c (words_from l from to) ≡ given (hex_in (part l from e)) (λ (d : List ℕ). last (mb q a t y c d) (words_from l (e + 1) to))
    unfolding data_form
    data_first = ap (next hex_in (λ (d : List ℕ). last (mb q a t y c d))) (words-some l from to h in-line e is)

    -- a word follows
    pub data_more : e < to → data_form q a t y c (words_from l from to) ≡ malformed
    data_more m =
        data_first
        ∙ go (hex_in (part l from e)) (words_from l (e + 1) to) (words-some l (e + 1) to (omega arith) in-line (end_of l (e + 1) to) refl)
      where
        go : (o : Option (List ℕ)) (ws : List (List ℕ)) {v : List ℕ} {vs : List (List ℕ)} → ws ≡ v ∷ vs → given o (λ (d : List ℕ). last (mb q a t y c d) ws) ≡ malformed
        go None ws s = refl
        go (Some d) ws s = ap (last (mb q a t y c d)) s

    data_last : to ≤ e → data_form q a t y c (words_from l from to) ≡ given (hex_in (part l from to)) (λ (d : List ℕ). mb q a t y c d)
    data_last m =
        let z : e ≡ to = omega (arith, end_le l from to in-line h) in
        data_first
        ∙ ap₂ (λ (w : List ℕ) (ws : List (List ℕ)). given (hex_in w) (λ (d : List ℕ). last (mb q a t y c d) ws)) (ap (part l from) z) (words-none l (e + 1) to (omega arith))

    pub data_bad : to ≤ e → there (hex_in (part l from to)) ≡ false → data_form q a t y c (words_from l from to) ≡ malformed
    data_bad m n = data_last m ∙ ap (λ (o : Option (List ℕ)). given o (λ (d : List ℕ). mb q a t y c d)) (no_hex (hex_in (part l from to)) n)

    pub data_is : to ≤ e → there (hex_in (part l from to)) ≡ true → data_form q a t y c (words_from l from to) ≡ mb q a t y c (bytes_of (part l from to))
    data_is m n = data_last m ∙ ap (λ (o : Option (List ℕ)). given o (λ (d : List ℕ). mb q a t y c d)) (hex_is (part l from to) n)

-- ---- a line

module _ (l : List ℕ) where
  -- the answer by the tests of length and brackets
  shaped : Bool → Bool → Bool → Form
  shaped n o c = cond n (cond o (cond c (form_by (words (take (length l - 2) (drop 1 l)))) malformed) malformed) malformed

  by_length : (t : Bool) → leb (length l) longest ≡ t → form_of l ≡ cond t (shaped (leb 2 (length l)) (eqb (get_or l 0 0) 40) (eqb (get_or l (length l - 1) 0) 41)) malformed
  unfolding form_of shaped
  by_length t e = ap (λ (t : Bool). cond t (shaped (leb 2 (length l)) (eqb (get_or l 0 0) 40) (eqb (get_or l (length l - 1) 0) 41)) malformed) e

  pub line-long : longest < length l → form_of l ≡ malformed
  line-long h = by_length false (lt-leb (length l) longest h)

module _ (l : List ℕ) (short : length l ≤ longest) where
  tests : (n o c : Bool) → leb 2 (length l) ≡ n → eqb (get_or l 0 0) 40 ≡ o → eqb (get_or l (length l - 1) 0) 41 ≡ c → form_of l ≡ shaped l n o c
  tests n o c e f g =
      by_length l true (le-leb (length l) longest short) ∙ ap₂ (λ (n o : Bool). shaped l n o (eqb (get_or l (length l - 1) 0) 41)) e f ∙ ap (shaped l n o) g

  pub line_short : length l < 2 → form_of l ≡ malformed
  unfolding shaped
  line_short h = tests false _ _ (lt-leb 2 (length l) h) refl refl

  module _ (h : 2 ≤ length l) where
    pub line_open : (get_or l 0 0 ≡ 40 → ⊥) → form_of l ≡ malformed
    unfolding shaped
    line_open o = tests true false _ (le-leb 2 (length l) h) (ne_eqb (get_or l 0 0) 40 o) refl

    module _ (o : get_or l 0 0 ≡ 40) where
      pub line_close : (get_or l (length l - 1) 0 ≡ 41 → ⊥) → form_of l ≡ malformed
      unfolding shaped
      line_close c = tests true true false (le-leb 2 (length l) h) (eq-eqb (get_or l 0 0) 40 o) (ne_eqb (get_or l (length l - 1) 0) 41 c)

      module _ (c : get_or l (length l - 1) 0 ≡ 41) (e : ℕ) (is : e ≡ end_of l 1 (length l - 1)) where
        line-words : form_of l ≡ form_by (part l 1 e ∷ words_from l (e + 1) (length l - 1))
        unfolding shaped
        line-words =
            let n : length l - 2 ≡ length l - 1 - 1 = omega arith in
            tests true true true (le-leb 2 (length l) h) (eq-eqb (get_or l 0 0) 40 o) (eq-eqb (get_or l (length l - 1) 0) 41 c)
            ∙ ap (λ (i : ℕ). form_by (words (take i (drop 1 l)))) n
            ∙ ap form_by (ap (λ (t : Bool). cond t (words (part l 1 (length l - 1))) []) (sym (le-leb 1 (length l - 1) (omega arith))))
            ∙ ap form_by (words-some l 1 (length l - 1) (omega arith) (omega arith) e is)

        module _ {p : Bool} (first : p ≡ same (part l 1 e) picture_word) where
          line_first : form_of l ≡ cond p (picture_form (words_from l (e + 1) (length l - 1))) (cond (same (part l 1 e) mb_word) (mb_form (words_from l (e + 1) (length l - 1))) malformed)
          line_first =
              line-words
              ∙ ap (λ (t : Bool). cond t (picture_form (words_from l (e + 1) (length l - 1))) (cond (same (part l 1 e) mb_word) (mb_form (words_from l (e + 1) (length l - 1))) malformed)) (sym first)

          pub line-picture : p ≡ true → form_of l ≡ picture_form (words_from l (e + 1) (length l - 1))
          line-picture y = line_first ∙ ap (λ (t : Bool). cond t (picture_form (words_from l (e + 1) (length l - 1))) (cond (same (part l 1 e) mb_word) (mb_form (words_from l (e + 1) (length l - 1))) malformed)) y

          module _ (n : p ≡ false) {m : Bool} (second : m ≡ same (part l 1 e) mb_word) where
            line_second : form_of l ≡ cond m (mb_form (words_from l (e + 1) (length l - 1))) malformed
            line_second =
                line_first ∙ ap (λ (t : Bool). cond t (picture_form (words_from l (e + 1) (length l - 1))) (cond (same (part l 1 e) mb_word) (mb_form (words_from l (e + 1) (length l - 1))) malformed)) n
                ∙ ap (λ (t : Bool). cond t (mb_form (words_from l (e + 1) (length l - 1))) malformed) (sym second)

            pub line-mb : m ≡ true → form_of l ≡ mb_form (words_from l (e + 1) (length l - 1))
            line-mb y = line_second ∙ ap (λ (t : Bool). cond t (mb_form (words_from l (e + 1) (length l - 1))) malformed) y

            pub line_other : m ≡ false → form_of l ≡ malformed
            line_other y = line_second ∙ ap (λ (t : Bool). cond t (mb_form (words_from l (e + 1) (length l - 1))) malformed) y

-- ---- the answer, where 16,384 bytes are lent for data and where fewer are

module _ (l old : List ℕ) where
  pub answered : {r : Line} {new : List ℕ} → room_for_data ≤ length old → (r ≡ line_of (form_of l)) × (new ≡ data_of (form_of l) old) → (r ≡ parsed l old) × (new ≡ data_after l old)
  answered h t =
      let e = sym (le-leb room_for_data (length old) h) in
      (t.0 ∙ ap (λ (b : Bool). cond b (line_of (form_of l)) TooShort) e, t.1 ∙ ap (λ (b : Bool). cond b (data_of (form_of l) old) old) e)

  pub too_short : length old < room_for_data → (TooShort ≡ parsed l old) × (old ≡ data_after l old)
  too_short h =
      let e = sym (lt-leb room_for_data (length old) h) in
      (ap (λ (b : Bool). cond b (line_of (form_of l)) TooShort) e, ap (λ (b : Bool). cond b (data_of (form_of l) old) old) e)
