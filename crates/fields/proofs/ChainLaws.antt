-- How numbers that are read go together as the reader's steps do: a part refused, or it gave a number and the rest goes on from its position. Assumes nothing.
use mathlib.Core.Bool.{Bool, ◌&&◌, cond, false, true}
use mathlib.Core.List.{List, ◌++◌}
use mathlib.Core.Path.{◌≡◌, refl, sym, ap, ap₂, subst, subst⁻¹, ◌∙◌}
use Prim.Native.Nat.{◌*◌, ◌+◌, ◌-◌, ◌≤◌, ℕ}
use native.Mathlib.Omega.{arith}
use lib.ListN.{drop, length, length-append}
use lib.Seq.{drop_at}
use borrow.Author.Tests.{le-leb}
use Rattle.bits.proofs.BitLaws.{length-bits_from}
use Rattle.bits.proofs.CursorLaws.{in_data_by, in_data_yes}
use Rattle.bits.specs.Bits.{Bits, bin, bits_from}
use Rattle.bits.specs.Cursor.{in_data}
use Rattle.bits.specs.declared.cursor.Cursor.{Cursor}
use Rattle.codes.specs.Table.{code_bits}
use Rattle.fields.proofs.ReadLaws.{code-sound, field-sound, marker-sound}
use Rattle.fields.proofs.StepLaws.{from_on}
use Rattle.fields.specs.Answer.{after, code_answer, field_answer, got_told, marker_answer}
use Rattle.fields.specs.Inside.{InsideNumber, Readable, SaysNumber, said_number}
use Rattle.fields.specs.Reader.{Res, bind, code, field, marker, no, ok}
use Rattle.fields.specs.declared.error.TextureParseError.{TextureParseError}
use Rattle.fields.specs.declared.error.TextureParseError.TheVariants.{OutOfRange}
use Rattle.numbers.proofs.Parts.{err_by}
use Rattle.std.specs.Prelude.{Err, IsErr, IsErrAnd, Ok, Result}

module _ (d : List ℕ) where
  -- ---- what an answer tells of the reader

  pub refused-is : (g : Result (ℕ × Cursor) TextureParseError) (m : Res ℕ) {e : TextureParseError} → SaysNumber d g m → g ≡ Err e → m ≡ no e
  refused-is g m s q = sym s.is ∙ ap (said_number d) q

  pub number_is : (g : Result (ℕ × Cursor) TextureParseError) (m : Res ℕ) {v : ℕ} {c : Cursor} → SaysNumber d g m → g ≡ Ok (v, c) → m ≡ ok v (bits_from d c.bit_pos)
  number_is g m s q = sym s.is ∙ ap (said_number d) q

  pub number_in : (g : Result (ℕ × Cursor) TextureParseError) (m : Res ℕ) {v : ℕ} {c : Cursor} → SaysNumber d g m → g ≡ Ok (v, c) → c.bit_pos ≤ 8 * length d
  number_in g m s q = subst (InsideNumber d) q s.inside

  -- ---- a number, then a number

  pub refused_n : (k : ℕ → Bits → Res ℕ) (g : Result (ℕ × Cursor) TextureParseError) (m : Res ℕ) {e : TextureParseError} → SaysNumber d g m → g ≡ Err e → SaysNumber d (Err e) (bind m k)
  refused_n k g m s q = record { is = sym (ap (λ (x : Res ℕ). bind x k) (refused-is g m s q)); inside = tt }

  pub passed_n : (k : ℕ → Bits → Res ℕ) (g : Result (ℕ × Cursor) TextureParseError) (m : Res ℕ) {v : ℕ} {c : Cursor} {r : Result (ℕ × Cursor) TextureParseError} → SaysNumber d g m → g ≡ Ok (v, c)
      → SaysNumber d r (k v (bits_from d c.bit_pos)) → SaysNumber d r (bind m k)
  passed_n k g m s q t = record { is = t.is ∙ sym (ap (λ (x : Res ℕ). bind x k) (number_is g m s q)); inside = t.inside }

  -- a refusal that `?` hands on
  pub handed_n : {r : Result (ℕ × Cursor) TextureParseError} {e : TextureParseError} (m : Res ℕ) → IsErr r × IsErrAnd r (λ x. x ≡ e) → SaysNumber d (Err e) m → SaysNumber d r m
  handed_n m h s = subst⁻¹ (λ (r : Result (ℕ × Cursor) TextureParseError). SaysNumber d r m) (err_by h) s

  -- a test of the reader's
  pub if_so_n : {r : Result (ℕ × Cursor) TextureParseError} (t : Bool) (x y : Res ℕ) → t ≡ true → SaysNumber d r x → SaysNumber d r (cond t x y)
  if_so_n {r} t x y e s = subst⁻¹ (λ (b : Bool). SaysNumber d r (cond b x y)) e s

  pub if_not_n : {r : Result (ℕ × Cursor) TextureParseError} (t : Bool) (x y : Res ℕ) → t ≡ false → SaysNumber d r y → SaysNumber d r (cond t x y)
  if_not_n {r} t x y e s = subst⁻¹ (λ (b : Bool). SaysNumber d r (cond b x y)) e s

  -- ---- a position in the data is where the bits that are left begin

  pub place_is : (c : Cursor) → c.bit_pos ≤ 8 * length d → c ≡ after d (bits_from d c.bit_pos)
  place_is c h =
      let len = length-bits_from d c.bit_pos in
      let e : c.bit_pos ≡ 8 * length d - length (bits_from d c.bit_pos) = omega arith in
      ap (λ (n : ℕ). record { bit_pos = n }) e

  pub rest-is : (at : ℕ) → at ≤ 8 * length d → (p r : Bits) → bits_from d at ≡ p ++ r → bits_from d (8 * length d - length r) ≡ r
  rest-is at h p r e =
      let n = length-bits_from d at in
      let m = ap length e ∙ length-append p r in
      let q : 8 * length d - length r ≡ at + length p = omega arith in
      ap (bits_from d) q ∙ sym (from_on d at (length p)) ∙ ap (drop (length p)) e ∙ drop_at p r (length p) refl

  -- ---- an answer to data that may be read says what the reader does

  -- what is left after a step is the end of what was there
  abbrev Ends : ℕ → Res ℕ → Type 0
  Ends at m = (v : ℕ) (r : Bits) → m ≡ ok v r → (p : Bits) × (bits_from d at ≡ p ++ r)

  told-says : (at : ℕ) → at ≤ 8 * length d → (m : Res ℕ) → Ends at m → (g : Result (ℕ × Cursor) TextureParseError) → g ≡ got_told d m → SaysNumber d g m
  told-says at h (ok v r) f g q =
      let x = f v r refl in
      subst⁻¹ (λ (g : Result (ℕ × Cursor) TextureParseError). SaysNumber d g (ok v r)) q (record { is = ap (λ (s : Bits). ok v s) (rest-is at h x.0 r x.1); inside = omega arith })
  told-says at h (no e) f g q = subst⁻¹ (λ (g : Result (ℕ × Cursor) TextureParseError). SaysNumber d g (no e)) q (record { is = refl; inside = tt })

  answer-says : (at : ℕ) → at ≤ 8 * length d → (t : Bool) → t ≡ true → (m : Res ℕ) → Ends at m → (g : Result (ℕ × Cursor) TextureParseError)
      → g ≡ cond t (got_told d m) (Err OutOfRange) → SaysNumber d g m
  answer-says at h t e m f g q = told-says at h m f g (q ∙ ap (λ (t : Bool). cond t (got_told d m) (Err OutOfRange)) e)

  module _ (c : Cursor) (h : Readable d c) (g : Result (ℕ × Cursor) TextureParseError) where
    abbrev b : Bits
    b = bits_from d c.bit_pos

    readable : in_data (length d) c.bit_pos ≡ true
    readable = in_data_by (length d) c.bit_pos h.1 h.0

    pub field-says : (n : ℕ) → n ≤ 32 → g ≡ field_answer d c.bit_pos n → SaysNumber d g (field n b)
    field-says n l q = answer-says c.bit_pos h.0 _ (ap₂ ◌&&◌ readable (le-leb n 32 l)) (field n b) (λ v r e. (bin n v, (field-sound n b e).1)) g q

    pub marker-says : (missing : TextureParseError) → g ≡ marker_answer d c.bit_pos missing → SaysNumber d g (marker missing b)
    marker-says missing q = answer-says c.bit_pos h.0 _ readable (marker missing b) (λ v r e. (bin 1 1, marker-sound missing b e)) g q

    pub code-says : (cs ls : List ℕ) (width rows : ℕ) (err : ℕ → TextureParseError) → g ≡ code_answer d c.bit_pos cs ls width rows err
        → SaysNumber d g (code cs ls width rows err b)
    code-says cs ls width rows err q =
        answer-says c.bit_pos h.0 _ readable (code cs ls width rows err b) (λ v r e. (code_bits cs ls v, (code-sound cs ls width rows err b e).1)) g q

  -- ---- an answer to any data, first of all

  -- a number is read of data that may be read
  number-there : (t : Bool) (m : Res ℕ) (g : Result (ℕ × Cursor) TextureParseError) {v : ℕ} {c : Cursor} → g ≡ cond t (got_told d m) (Err OutOfRange) → g ≡ Ok (v, c) → t ≡ true
  number-there true m g q e = refl
  number-there false m g q e = absurd (let z : ◌≡◌ {A = ℕ} 0 1 = cc in omega arith)

  -- a refusal, of the data or of what they hold, is handed on
  pub refused_first : {A R : Type 0} (told : Res A → R) (fails : TextureParseError → R) → ((e : TextureParseError) → told (no e) ≡ fails e)
      → (t : Bool) (m : Res ℕ) (k : ℕ → Bits → Res A) (g : Result (ℕ × Cursor) TextureParseError) {e : TextureParseError} → g ≡ cond t (got_told d m) (Err OutOfRange) → g ≡ Err e
      → fails e ≡ cond t (told (bind m k)) (fails OutOfRange)
  refused_first told fails named true (ok v r) k g {e} q f = absurd (let z : ◌≡◌ {A = ℕ} 0 1 = cc in omega arith)
  refused_first told fails named true (no x) k g {e} q f = let z : e ≡ x = cc in ap fails z ∙ sym (named x)
  refused_first told fails named false m k g {e} q f = let z : e ≡ OutOfRange = cc in ap fails z

-- ---- the first number of all

module _ (d : List ℕ) (at : ℕ) where
  -- one was read
  pub record First (m : Res ℕ) (g : Result (ℕ × Cursor) TextureParseError) (v : ℕ) (next : Cursor) : Type 0 where
    pub in_data_lem : in_data (length d) at ≡ true
    pub says : SaysNumber d g m
    pub read : m ≡ ok v (bits_from d next.bit_pos)
    pub readable : Readable d next

  first : (m : Res ℕ) → Ends d at m → (g : Result (ℕ × Cursor) TextureParseError) {v : ℕ} {next : Cursor} → g ≡ cond (in_data (length d) at) (got_told d m) (Err OutOfRange) → g ≡ Ok (v, next) → First m g v next
  first m ends g q f =
      let h = number-there d (in_data (length d) at) m g q f in
      let y = in_data_yes (length d) at h in
      let s = answer-says d at y.1 (in_data (length d) at) h m ends g q in
      record { in_data_lem = h; says = s; read = number_is d g m s f; readable = (number_in d g m s f, y.0) }

  -- a field of at most 32 bits asks nothing more
  pub field_asked : (n : ℕ) → n ≤ 32 → field_answer d at n ≡ cond (in_data (length d) at) (got_told d (field n (bits_from d at))) (Err OutOfRange)
  field_asked n l = ap (λ (t : Bool). cond (in_data (length d) at && t) (got_told d (field n (bits_from d at))) (Err OutOfRange)) (le-leb n 32 l) ∙ go (in_data (length d) at)
    where
      go : (s : Bool) → cond (s && true) (got_told d (field n (bits_from d at))) (Err OutOfRange) ≡ cond s (got_told d (field n (bits_from d at))) (Err OutOfRange)
      go true = refl
      go false = refl

  pub field_first : (n : ℕ) → n ≤ 32 → (g : Result (ℕ × Cursor) TextureParseError) {v : ℕ} {next : Cursor} → g ≡ field_answer d at n → g ≡ Ok (v, next) → First (field n (bits_from d at)) g v next
  field_first n l g q f = first (field n (bits_from d at)) (λ v r e. (bin n v, (field-sound n (bits_from d at) e).1)) g (q ∙ field_asked n l) f

  pub code_first : (cs ls : List ℕ) (width rows : ℕ) (err : ℕ → TextureParseError) (g : Result (ℕ × Cursor) TextureParseError) {v : ℕ} {next : Cursor} → g ≡ code_answer d at cs ls width rows err → g ≡ Ok (v, next)
      → First (code cs ls width rows err (bits_from d at)) g v next
  code_first cs ls width rows err g q f = first (code cs ls width rows err (bits_from d at)) (λ v r e. (code_bits cs ls v, (code-sound cs ls width rows err (bits_from d at) e).1)) g q f
