-- What a cursor reads is the answer to a field or a marker. Assumes nothing.
use mathlib.Core.Bool.{Bool, ◌&&◌, cond, false, true}
use mathlib.Core.List.{List}
use mathlib.Core.Path.{◌≡◌, refl, sym, ap, ◌∙◌}
use Prim.Native.Nat.{◌*◌, ◌+◌, ◌-◌, ◌≤◌, ℕ}
use native.Mathlib.Omega.{arith}
use lib.Dec.{eqb, leb}
use lib.ListN.{drop, length, length-drop, take}
use borrow.Author.Tests.{eq-eqb, leb-true, ne_eqb}
use Rattle.bits.proofs.BitLaws.{length-bits_from}
use Rattle.bits.proofs.CursorLaws.{in_data_yes}
use Rattle.bits.specs.Bits.{Bits, bits_from, val}
use Rattle.bits.specs.Cursor.{cursor_at, in_data, read_bits}
use Rattle.bits.specs.declared.cursor.Cursor.{Cursor}
use Rattle.bits.specs.declared.error.BitReaderError.TheVariants.{EndOfStream, OutOfRange as BitsOut}
use Rattle.fields.specs.Answer.{after, field_answer, got_told, marker_answer}
use Rattle.fields.specs.Inside.{refusal_of}
use Rattle.fields.specs.Reader.{Res, bind, field, marker, no, ok}
use Rattle.fields.specs.declared.error.TextureParseError.{TextureParseError}
use Rattle.fields.specs.declared.error.TextureParseError.TheVariants.{OutOfRange, Truncated}
use Rattle.std.specs.Prelude.{Err, Ok, Result}
use Rattle.bits.specs.declared.error.BitReaderError.{BitReaderError}

-- what is read of bits, as a number
abbrev pub got_of : Result (ℕ × Cursor) BitReaderError → Result (ℕ × Cursor) TextureParseError
got_of (Ok (v, c)) = Ok (v, c)
got_of (Err e) = Err (refusal_of e)

-- and what a marker makes of a number
abbrev marked_by : TextureParseError → Result (ℕ × Cursor) TextureParseError → Result (ℕ × Cursor) TextureParseError
marked_by missing (Ok (m, c)) = cond (eqb m 1) (Ok (m, c)) (Err missing)
marked_by missing (Err e) = Err e

module _ (d : List ℕ) (at : ℕ) where
  abbrev b : Bits
  b = bits_from d at

  -- the cursor past n of the bits that are left
  pub past_is : (n : ℕ) → at ≤ 8 * length d → n ≤ length b → cursor_at (at + n) ≡ after d (drop n b)
  past_is n h l =
      let m = length-drop n b in
      let k = length-bits_from d at in
      let e : at + n ≡ 8 * length d - length (drop n b) = omega arith in
      ap cursor_at e

  pub read_answer : (n : ℕ) (x : Result (ℕ × Cursor) BitReaderError) → x ≡ read_bits d at n → got_of x ≡ field_answer d at n
  unfolding read_bits field
  read_answer n x q = ap got_of q ∙ go (in_data (length d) at) refl (leb n 32) (leb n (length b)) refl
    where
      go : (s : Bool) → in_data (length d) at ≡ s → (t u : Bool) → leb n (length b) ≡ u
          → got_of (cond (s && t) (cond u (Ok (val (take n b), cursor_at (at + n))) (Err EndOfStream)) (Err BitsOut))
          ≡ cond (s && t) (got_told d (cond u (ok (val (take n b)) (drop n b)) (no Truncated))) (Err OutOfRange)
      go true h true true e = ap (λ (c : Cursor). Ok (val (take n b), c)) (past_is n (in_data_yes (length d) at h).1 (leb-true n (length b) e))
      go true h true false e = refl
      go true h false u e = refl
      go false h t u e = refl

  -- ---- a marker, of the bit that is read

  module _ (missing : TextureParseError) where
    marked : (g : Result (ℕ × Cursor) TextureParseError) → g ≡ field_answer d at 1 → marked_by missing g ≡ marker_answer d at missing
    unfolding marker
    marked g q = ap (marked_by missing) q ∙ go (in_data (length d) at) (field 1 b)
      where
        by : (t : Bool) (v : ℕ) (r : Bits) → cond t (Ok (v, after d r)) (Err missing) ≡ got_told d (cond t (ok v r) (no missing))
        by true v r = refl
        by false v r = refl

        go : (s : Bool) (m : Res ℕ) → marked_by missing (cond (s && true) (got_told d m) (Err OutOfRange))
            ≡ cond s (got_told d (bind m (λ m r. cond (eqb m 1) (ok m r) (no missing)))) (Err OutOfRange)
        go true (ok v r) = by (eqb v 1) v r
        go true (no e) = refl
        go false m = refl

    pub marker-refused : (e : TextureParseError) → Err e ≡ field_answer d at 1 → Err e ≡ marker_answer d at missing
    marker-refused e q = marked (Err e) q

    pub marker-there : (m : ℕ) (c : Cursor) → m ≡ 1 → Ok (m, c) ≡ field_answer d at 1 → Ok (m, c) ≡ marker_answer d at missing
    marker-there m c h q = sym (ap (λ (t : Bool). cond t (Ok (m, c)) (Err missing)) (eq-eqb m 1 h)) ∙ marked (Ok (m, c)) q

    pub marker_missing : (m : ℕ) (c : Cursor) → (m ≡ 1 → ⊥) → Ok (m, c) ≡ field_answer d at 1 → Err missing ≡ marker_answer d at missing
    marker_missing m c h q = sym (ap (λ (t : Bool). cond t (Ok (m, c)) (Err missing)) (ne_eqb m 1 h)) ∙ marked (Ok (m, c)) q
