-- What a window shows, the row that is found in it, and the answer of that row, which in a prefix-free table is the reader's. Assumes nothing.
use mathlib.Core.Bool.{Bool, ◌&&◌, cond, false, true}
use mathlib.Core.List.{List}
use mathlib.Core.Path.{◌≡◌, refl, sym, ap, ap₂, subst, subst₂, ◌∙◌}
use Prim.Native.Nat.{◌*◌, ◌+◌, ◌<◌, ◌≤◌, min, ℕ}
use native.Mathlib.Nat.{le_refl}
use native.Mathlib.Omega.{arith}
use lib.Dec.{T, eqb, leb, leb→le, ltb}
use lib.ListN.{get_or, length, length-take, take}
use lib.Seq.{take-take}
use borrow.Author.Tests.{eqb-false, eqb-true, le-leb, le-ltb, leb-true, lt-ltb, ltb-false, ltb-true}
use Rattle.bits.proofs.CursorLaws.{in_data_yes}
use Rattle.bits.specs.Bits.{Bits, bits_from, val}
use Rattle.bits.specs.Cursor.{cursor_at, in_data, next_window}
use Rattle.bits.specs.declared.error.BitReaderError.{BitReaderError}
use Rattle.bits.specs.declared.error.BitReaderError.TheVariants.{EndOfStream, OutOfRange as BitsOut}
use Rattle.codes.proofs.CutLaws.{cut-window}
use Rattle.codes.proofs.SearchLaws.{seek_hit}
use Rattle.codes.proofs.TableLaws.{found-row}
use Rattle.codes.specs.Table.{Found, cut_at, cut_in, hit, prefix_free, row_at, row_in}
use Rattle.fields.proofs.FieldLaws.{past_is}
use Rattle.fields.proofs.StepLaws.{code_empty, code-found, code_lost, row_fits}
use Rattle.fields.specs.Answer.{CodeRead, FoundAt, code_answer, got_told, row_answer, rows_of}
use Rattle.fields.specs.Inside.{refusal_of}
use Rattle.fields.specs.Reader.{code, no_code}
use Rattle.fields.specs.declared.error.TextureParseError.{TextureParseError}
use Rattle.fields.specs.declared.error.TextureParseError.TheVariants.{EndedInsideCode, OutOfRange, Truncated}
use Rattle.numbers.proofs.Tests.{and_left}
use Rattle.numbers.proofs.Parts.{ok-parts}
use Rattle.std.specs.Prelude.{Err, Ok, Result}
use Rattle.bits.specs.declared.cursor.Cursor.{Cursor}

module _ (d : List ℕ) (at : ℕ) where
  abbrev b : Bits
  b = bits_from d at

  -- ---- a window, and a row in it

  module _ (width : ℕ) where
    abbrev shown : Bool → Result (ℕ × ℕ) BitReaderError
    shown t = cond t (Err EndOfStream) (Ok (val (take width b), length (take width b)))

    pub record Shown (w n : ℕ) : Type 0 where
      pub in_data_lem : in_data (length d) at ≡ true
      pub narrow : leb width 32 ≡ true
      pub some : eqb (length b) 0 ≡ false
      pub window : w ≡ val (take width b)
      pub long : n ≡ length (take width b)

    pub window-is : (w n : ℕ) → Ok (w, n) ≡ next_window d at width → Shown w n
    unfolding next_window
    window-is w n q = go (in_data (length d) at) refl (leb width 32) refl (eqb (length b) 0) refl q
      where
        go : (s : Bool) → in_data (length d) at ≡ s → (t : Bool) → leb width 32 ≡ t → (u : Bool) → eqb (length b) 0 ≡ u → Ok (w, n) ≡ cond (s && t) (shown u) (Err BitsOut) → Shown w n
        go true h true l true e q = absurd (let z : ◌≡◌ {A = ℕ} 0 1 = cc in omega arith)
        go true h true l false e q =
            let p = ok-parts q in
            record { in_data_lem = h; narrow = l; some = e; window = p.0; long = p.1 }
        go true h false l u e q = absurd (let z : ◌≡◌ {A = ℕ} 0 1 = cc in omega arith)
        go false h t l u e q = absurd (let z : ◌≡◌ {A = ℕ} 0 1 = cc in omega arith)

    module _ (cs ls : List ℕ) (n : ℕ) (err : ℕ → TextureParseError) where
      abbrev found : Bool → ℕ → Result (ℕ × Cursor) TextureParseError
      found t i = cond t (Ok (i, cursor_at (at + get_or ls i 0))) (Err (no_code cs ls width n err (take width b)))

      abbrev answer : Bool → Bool → Bool → ℕ → Result (ℕ × Cursor) TextureParseError
      answer s t u i = cond (s && t) (cond u (Err Truncated) (found (ltb i n) i)) (Err OutOfRange)

      -- no window, whatever the row
      pub row-no-window : (e : BitReaderError) → Err e ≡ next_window d at width → (i : ℕ) → Err (refusal_of e) ≡ row_answer d at cs ls width n err i
      unfolding next_window
      row-no-window e q i = go (in_data (length d) at) (leb width 32) (eqb (length b) 0) q
        where
          go : (s t u : Bool) → Err e ≡ cond (s && t) (shown u) (Err BitsOut) → Err (refusal_of e) ≡ answer s t u i
          go true true true q = let z : e ≡ EndOfStream = cc in ap (λ (x : BitReaderError). Err (refusal_of x)) z
          go true true false q = absurd (let z : ◌≡◌ {A = ℕ} 0 1 = cc in omega arith)
          go true false u q = let z : e ≡ BitsOut = cc in ap (λ (x : BitReaderError). Err (refusal_of x)) z
          go false t u q = let z : e ≡ BitsOut = cc in ap (λ (x : BitReaderError). Err (refusal_of x)) z

      module _ {w k : ℕ} (v : Shown w k) (i : ℕ) where
        row_in_lem : row_answer d at cs ls width n err i ≡ found (ltb i n) i
        row_in_lem = ap₂ (λ (s t : Bool). answer s t (eqb (length b) 0) i) v.in_data_lem v.narrow ∙ ap (λ (u : Bool). answer true true u i) v.some

        pub row-there : i < n → Ok (i, cursor_at (at + get_or ls i 0)) ≡ row_answer d at cs ls width n err i
        row-there l = sym (row_in_lem ∙ ap (λ (t : Bool). found t i) (lt-ltb i n l))

        -- none, and whether the window ends inside a code
        pub row_missing : n ≤ i → (ends : Bool) → ends ≡ cut_in cs ls n w k → Err (cond ends EndedInsideCode (err w)) ≡ row_answer d at cs ls width n err i
        row_missing l ends e =
            let s : ends ≡ cut_at cs ls n (take width b) = e ∙ ap₂ (cut_in cs ls n) v.window v.long in
            let x : w ≡ val (take width (take width b)) = v.window ∙ ap val (sym (take-take width width b (le_refl width))) in
            ap₂ (λ (t : Bool) (x : ℕ). Err (cond t EndedInsideCode (err x))) s x ∙ sym (row_in_lem ∙ ap (λ (t : Bool). found t i) (le-ltb i n l))

-- ---- the row that is found

-- there is one, or none
pub row-is-found : (cs ls : List ℕ) (rows w n : ℕ) → Found cs ls rows w n (row_in cs ls rows w n)
row-is-found cs ls rows w n = (λ h. seek_hit (λ i. hit w n (get_or cs i 0) (get_or ls i 0)) rows 0 (omega arith), λ h. refl)

module _ (d : List ℕ) (at : ℕ) (cs ls : List ℕ) (width rows : ℕ) {w n : ℕ} (v : Shown d at width w n) (i : ℕ) where
  pub found_at : (most : ℕ) → most ≡ rows_of cs ls rows → Found cs ls (min most (min (length cs) (length ls))) w n i → FoundAt d at cs ls width rows i
  found_at most e f =
      let k : min most (min (length cs) (length ls)) ≡ rows_of cs ls rows = omega arith in
      subst (λ (k : ℕ). Found cs ls k (val (take width (bits_from d at))) (length (take width (bits_from d at))) i) k
      (subst₂ (λ (w n : ℕ). Found cs ls (min most (min (length cs) (length ls))) w n i) v.window v.long f)

  -- its code ends not far behind the data
  pub found_small : FoundAt d at cs ls width rows i → i < rows_of cs ls rows → at + get_or ls i 0 ≤ 8388640
  found_small f h =
      let l = leb→le (get_or ls i 0) _ (and_left (leb (get_or ls i 0) (length (take width (bits_from d at)))) _ (f.0 h)) in
      let t = length-take width (bits_from d at) in
      let k = leb-true width 32 v.narrow in
      let y = in_data_yes (length d) at v.in_data_lem in
      omega arith

-- whether a window ends inside a code, of as many rows
pub ends_at : (cs ls : List ℕ) (rows w n most : ℕ) → most ≡ rows_of cs ls rows → cut_in cs ls (min most (min (length cs) (length ls))) w n ≡ cut_in cs ls (rows_of cs ls rows) w n
ends_at cs ls rows w n most e =
    let k : min most (min (length cs) (length ls)) ≡ rows_of cs ls rows = omega arith in
    ap (λ (k : ℕ). cut_in cs ls k w n) k

-- ---- in a table that is prefix-free it is the row, and the answer the reader's

-- rows that the table has, lengths up to `width`, and no code that begins another
abbrev pub GoodTable : ℕ → ℕ → List ℕ → List ℕ → Type 0
GoodTable width rows cs ls = (width ≤ 32) × (rows ≤ length cs) × (rows ≤ length ls) × (rows ≤ 256) × T (prefix_free width cs ls)

module _ (d : List ℕ) (at : ℕ) (cs ls : List ℕ) (width rows : ℕ) (err : ℕ → TextureParseError) where
  abbrev bits : Bits
  bits = bits_from d at

  abbrev row : Bool → ℕ → Result (ℕ × Cursor) TextureParseError
  row t i = cond t (Ok (i, cursor_at (at + get_or ls i 0))) (Err (no_code cs ls width rows err (take width bits)))

  -- a window tells whether the bits end inside a code
  no-code-window : GoodTable width rows cs ls → no_code cs ls width rows err (take width bits) ≡ no_code cs ls width rows err bits
  no-code-window good = ap₂ (λ (t : Bool) (u : Bits). cond t EndedInsideCode (err (val u))) (cut-window width cs ls good.4 rows good.1 bits) (take-take width width bits (le_refl width))

  row_told : GoodTable width rows cs ls → at ≤ 8 * length d → 0 < length bits → (i : ℕ) → i ≡ row_at cs ls width rows bits → row (ltb i rows) i ≡ got_told d (code cs ls width rows err bits)
  row_told good h some i is = go (ltb i rows) refl
    where
      go : (t : Bool) → ltb i rows ≡ t → row t i ≡ got_told d (code cs ls width rows err bits)
      go true e =
          let l = ltb-true i rows e in
          ap (λ (c : Cursor). Ok (i, c)) (past_is d at (get_or ls i 0) h (row_fits cs ls width rows err bits i is l)) ∙ sym (ap (got_told d) (code-found cs ls width rows err bits some i is l))
      go false e = ap Err (no-code-window good) ∙ sym (ap (got_told d) (code_lost cs ls width rows err bits some i is (ltb-false i rows e)))

  row-answer : GoodTable width rows cs ls → (i : ℕ) → i ≡ row_at cs ls width rows bits → row_answer d at cs ls width rows err i ≡ code_answer d at cs ls width rows err
  row-answer good i is =
      ap (λ (t : Bool). cond (in_data (length d) at && t) (cond (eqb (length bits) 0) (Err Truncated) (row (ltb i rows) i)) (Err OutOfRange)) (le-leb width 32 good.0)
      ∙ go (in_data (length d) at) refl (eqb (length bits) 0) refl
    where
      go : (s : Bool) → in_data (length d) at ≡ s → (u : Bool) → eqb (length bits) 0 ≡ u
          → cond (s && true) (cond u (Err Truncated) (row (ltb i rows) i)) (Err OutOfRange)
          ≡ cond s (got_told d (code cs ls width rows err bits)) (Err OutOfRange)
      go true h true e = sym (ap (got_told d) (code_empty cs ls width rows err bits (eqb-true (length bits) 0 e)))
      go true h false e = row_told good (in_data_yes (length d) at h).1 (let z = eqb-false (length bits) 0 e in omega arith) i is
      go false h u e = refl

  pub code_read : GoodTable width rows cs ls → (g : Result (ℕ × Cursor) TextureParseError) → CodeRead d at cs ls width rows err g → g ≡ code_answer d at cs ls width rows err
  code_read good g x =
      let most : rows_of cs ls rows ≡ rows = omega arith in
      let f = subst (λ (n : ℕ). Found cs ls n (val (take width bits)) (length (take width bits)) x.0) most x.1.0 in
      x.1.1 ∙ ap (λ (n : ℕ). row_answer d at cs ls width n err x.0) most
      ∙ row-answer good x.0 (found-row width cs ls good.4 rows good.1 (val (take width bits)) (length (take width bits)) x.0 f)
