-- The parts of a header, as the code goes through them: codes by six bits, one part after the other, and the fields that they say. Assumes nothing.
use mathlib.Core.Bool.{Bool, cond, false, true, ◌&&◌}
use mathlib.Core.List.{List, ◌++◌}
use mathlib.Core.Path.{◌≡◌, ap, refl, subst, subst⁻¹, sym, ◌∙◌}
use Prim.Native.Nat.{ℕ, ◌%◌, ◌*◌, ◌+◌, ◌/◌, ◌<◌, ◌≤◌}
use native.Mathlib.Nat.{mod-lt}
use native.Mathlib.Omega.{arith}
use lib.Dec.{T, eqb}
use lib.IntN.{nat_abs, negsuc, pos, ℤ, ◌+ℤ◌}
use lib.ListN.{length}
use borrow.Author.Tests.{eq-eqb, ne_eqb}
use Rattle.bits.proofs.AheadLaws.{field-bits, window-begins, window-length}
use Rattle.bits.proofs.BitLaws.{length-bits_from}
use Rattle.bits.specs.Ahead.{ahead_of, window}
use Rattle.bits.specs.Bits.{Bits, bin, bits_from}
use Rattle.bits.specs.Cursor.{cursor_at, in_data}
use Rattle.bits.specs.declared.cursor.Cursor.{Cursor}
use Rattle.codes.proofs.HeaderLaws.{ShortOf, cbpc_is, cbpy_is, short_row_lem, type_is}
use Rattle.codes.specs.Header.{cbpc_at, cbpy_at, cbpy_codes, cbpy_lens, short_row, type_at}
use Rattle.codes.specs.Table.{code_bits, prefix_free}
use Rattle.fields.proofs.ChainLaws.{place_is}
use Rattle.fields.proofs.ReadLaws.{bind_by, code-complete, field-complete}
use Rattle.fields.proofs.TakeLaws.{field_stops}
use Rattle.fields.specs.Answer.{code_answer, field_answer, got_told}
use Rattle.fields.specs.Inside.{Says, invalid}
use Rattle.fields.specs.Reader.{Res, bind, code, field, mapped, no, ok}
use Rattle.fields.specs.declared.code.CodeKind.TheVariants.{Header as HeaderCode}
use Rattle.fields.specs.declared.error.TextureParseError.{TextureParseError}
use Rattle.fields.specs.declared.error.TextureParseError.TheVariants.{OutOfRange, Truncated}
use Rattle.sentences.specs.ComposeReader.{read_opt}
use Rattle.headers.proofs.HeaderLaws.{header_reads}
use Rattle.headers.proofs.McbpcLaws.{mapped-ok, mcbpc_reads, row_read}
use Rattle.ranges.specs.Range.{limited_quantiser}
use Rattle.headers.specs.Fields.{delta_of, type_by}
use Rattle.headers.specs.Header.{GoodHeader, Header, Mcbpc, changes_at, row_of}
use Rattle.headers.specs.HeaderReader.{read_header, read_mcbpc, read_rest}
use Rattle.headers.specs.Inside.{PartsFine, SaysParts, fields_by, parts_by, parts_of, with_rest}
use Rattle.headers.specs.declared.header.DerivedMbType.{DerivedMbType}
use Rattle.headers.specs.declared.parts.HeaderParts.{HeaderParts}
use Rattle.std.specs.Prelude.{Err, Ok, Result, Option, None, Some}

-- ---- a code by six bits

module _ (d : List ℕ) (at : ℕ) (cs ls : List ℕ) (width rows few : ℕ) (err : ℕ → TextureParseError) (free : T (prefix_free width cs ls)) (within : rows ≤ length cs) (less : few ≤ rows)
    (e : ℕ) (is : e ≡ short_row cs ls few (ahead_of d at / 67108864)) (nz : e ≡ 0 → ⊥) where
  found : ShortOf cs ls few (window d at) e
  found = short_row_lem cs ls few (window d at) (window-length d at) e is nz

  pub short_code : in_data (length d) at ≡ true → at + e % 16 ≤ 8 * length d → Ok (e / 16, cursor_at (at + e % 16)) ≡ code_answer d at cs ls width rows err
  short_code h l =
      let next : ℕ = at + e % 16 in
      let b : bits_from d at ≡ code_bits cs ls (e / 16) ++ bits_from d next =
      window-begins d at (e % 16) (let k = found.short in omega arith) l ∙ ap (λ (x : Bits). x ++ bits_from d next) found.front in
      let c : code cs ls width rows err (bits_from d at) ≡ ok (e / 16) (bits_from d next) =
      ap (code cs ls width rows err) b ∙ code-complete cs ls width rows err free within (e / 16) (bits_from d next) (let k = found.below in omega arith) in
      ap (λ (c : Cursor). Ok (e / 16, c)) (place_is d (cursor_at next) l) ∙ sym (ap (got_told d) c)
      ∙ sym (ap (λ (t : Bool). cond t (got_told d (code cs ls width rows err (bits_from d at))) (Err OutOfRange)) h)

-- ---- one bit

module _ (d : List ℕ) (at : ℕ) (h : in_data (length d) at ≡ true) where
  flag_answer : field_answer d at 1 ≡ got_told d (field 1 (bits_from d at))
  flag_answer = ap (λ (t : Bool). cond (t && true) (got_told d (field 1 (bits_from d at))) (Err OutOfRange)) h

  pub no_bit : 8 * length d ≤ at → Err Truncated ≡ field_answer d at 1
  no_bit l = sym (flag_answer ∙ ap (got_told d) (field_stops 1 (bits_from d at) (let n = length-bits_from d at in omega arith)))

  pub one_bit : at < 8 * length d → Ok (ahead_of d at / 2147483648 % 2, cursor_at (at + 1)) ≡ field_answer d at 1
  one_bit l =
      let v : ℕ = ahead_of d at / 2147483648 % 2 in
      let b : bits_from d at ≡ bin 1 v ++ bits_from d (at + 1) =
      window-begins d at 1 (omega arith) (omega arith) ∙ ap (λ (x : Bits). x ++ bits_from d (at + 1)) (field-bits (window d at) 0 1 31 (window-length d at)) in
      let f : field 1 (bits_from d at) ≡ ok v (bits_from d (at + 1)) = ap (field 1) b ∙ field-complete 1 v (bits_from d (at + 1)) (mod-lt _ (omega arith)) in
      ap (λ (c : Cursor). Ok (v, c)) (place_is d (cursor_at (at + 1)) (omega arith)) ∙ sym (flag_answer ∙ ap (got_told d) f)

-- ---- rows 0 to 3 have no dquant, 4 to 7 have one

pub no_change : (i : ℕ) → i < 4 → changes_at i ≡ false
no_change i h = ne_eqb (type_at i) 4 (λ e. omega (arith, type_is i (omega arith)))

pub change : (i : ℕ) → 4 ≤ i → i < 8 → changes_at i ≡ true
change i l h = eq-eqb (type_at i) 4 (omega (arith, type_is i h))

-- ---- one part after the other

-- an answer that is another says the same
pub says_as : {R B : Type 0} {said : R → Res B} {Inside : R → Type 0} {m : Res B} {r x : R} → r ≡ x → Says said Inside x m → Says said Inside r m
says_as {said = said} {Inside = Inside} {m = m} e s = subst⁻¹ (λ y. Says said Inside y m) e s

module _ (d : List ℕ) where
  -- the first part is refused
  no_first : {A B : Type 0} (f : B → HeaderParts) (m : Res A) (k : A → Bits → Res B) {e : TextureParseError} → m ≡ no e → SaysParts d (Err e) (mapped f (bind m k))
  no_first {A} f m k q = record { is = sym (ap (λ (x : Res A). mapped f (bind x k)) q); inside = tt }

  -- or it is there, and the rest is said
  passed : {A B : Type 0} (f : B → HeaderParts) (m : Res A) (k : A → Bits → Res B) {v : A} {s : Bits} (r : Result (HeaderParts × Cursor) TextureParseError) → m ≡ ok v s → SaysParts d r (mapped f (k v s)) → SaysParts d r (mapped f (bind m k))
  passed f m k r q t = subst⁻¹ (λ (x : Res HeaderParts). SaysParts d r x) (ap (mapped f) (bind_by k q)) t

  second : {A B C : Type 0} (f : A × B → C) (v : A) (m : Res B) → mapped f (bind m (λ c r. ok (v, c) r)) ≡ mapped (λ (c : B). f (v, c)) m
  second f v (ok c r) = refl
  second f v (no e) = refl

  abbrev cbpy_read : Bits → Res ℕ
  cbpy_read = code cbpy_codes cbpy_lens 6 16 (invalid HeaderCode)

  -- ---- what follows mcbpc

  module _ (mcbpc : ℕ) (changes : Bool) (b : Bits) where
    pub no_flag : {e : TextureParseError} → field 1 b ≡ no e → SaysParts d (Err e) (mapped (with_rest mcbpc) (read_rest changes b))
    no_flag q = no_first (with_rest mcbpc) (field 1 b) _ q

    module _ {flag : ℕ} {s : Bits} (q : field 1 b ≡ ok flag s) where
      after_flag_lem : (r : Result (HeaderParts × Cursor) TextureParseError) → SaysParts d r (mapped (λ (c : ℕ × Option ℕ). with_rest mcbpc (flag, c)) (bind (cbpy_read s) (λ i r. bind (read_opt changes (field 2) r) (λ o r. ok (i, o) r)))) → SaysParts d r (mapped (with_rest mcbpc) (read_rest changes b))
      after_flag_lem r t = passed (with_rest mcbpc) (field 1 b) _ r q (subst⁻¹ (λ (x : Res HeaderParts). SaysParts d r x) (second (with_rest mcbpc) flag (bind (cbpy_read s) (λ i r. bind (read_opt changes (field 2) r) (λ o r. ok (i, o) r)))) t)

      pub no_cbpy : {e : TextureParseError} → cbpy_read s ≡ no e → SaysParts d (Err e) (mapped (with_rest mcbpc) (read_rest changes b))
      no_cbpy {e} z = after_flag_lem (Err e) (no_first (λ (c : ℕ × Option ℕ). with_rest mcbpc (flag, c)) (cbpy_read s) _ z)

      pub rest-said : {i : ℕ} {u : Bits} (r : Result (HeaderParts × Cursor) TextureParseError) → cbpy_read s ≡ ok i u → SaysParts d r (mapped (parts_by mcbpc flag i) (read_opt changes (field 2) u)) → SaysParts d r (mapped (with_rest mcbpc) (read_rest changes b))
      rest-said {i} {u} r z t =
          after_flag_lem r
          (passed (λ (c : ℕ × Option ℕ). with_rest mcbpc (flag, c)) (cbpy_read s) _ r z
          (subst⁻¹ (λ (x : Res HeaderParts). SaysParts d r x) (second (λ (c : ℕ × Option ℕ). with_rest mcbpc (flag, c)) i (read_opt changes (field 2) u)) t))

  -- ---- dquant

  module _ (mcbpc flag cbpy : ℕ) (b : Bits) where
    abbrev dquant_read : Bool → Res HeaderParts
    dquant_read t = mapped (parts_by mcbpc flag cbpy) (read_opt t (field 2) b)

    pub no_dquant : mcbpc < 4 → (c : Cursor) → b ≡ bits_from d c.bit_pos → c.bit_pos ≤ 8 * length d → SaysParts d (Ok (parts_by mcbpc flag cbpy None, c)) (dquant_read (changes_at mcbpc))
    no_dquant h c e l =
        subst⁻¹ (λ (t : Bool). SaysParts d (Ok (parts_by mcbpc flag cbpy None, c)) (dquant_read t)) (no_change mcbpc h)
        (record { is = ap (ok (parts_by mcbpc flag cbpy None)) (sym e); inside = l })

    module _ (l : 4 ≤ mcbpc) (h : mcbpc < 8) where
      pub cut_dquant : {e : TextureParseError} → field 2 b ≡ no e → SaysParts d (Err e) (dquant_read (changes_at mcbpc))
      cut_dquant {e} q = subst⁻¹ (λ (t : Bool). SaysParts d (Err e) (dquant_read t)) (change mcbpc l h) (no_first (parts_by mcbpc flag cbpy) (field 2 b) _ q)

      pub dquant_said : {v : ℕ} (c : Cursor) → field 2 b ≡ ok v (bits_from d c.bit_pos) → c.bit_pos ≤ 8 * length d → (p : HeaderParts) → p ≡ parts_by mcbpc flag cbpy (Some v) → SaysParts d (Ok (p, c)) (dquant_read (changes_at mcbpc))
      dquant_said {v} c q m p e =
          subst⁻¹ (λ (t : Bool). SaysParts d (Ok (p, c)) (dquant_read t)) (change mcbpc l h)
          (passed (parts_by mcbpc flag cbpy) (field 2 b) _ (Ok (p, c)) q (record { is = ap (λ (x : HeaderParts). ok x (bits_from d c.bit_pos)) e; inside = m }))

  -- ---- the whole

  module _ (b : Bits) where
    pub row_small : {i : ℕ} {s : Bits} → row_read b ≡ ok i s → i < 8
    row_small q = let x = mapped-ok row_of (read_mcbpc b) q in subst (λ (k : ℕ). k < 8) x.1.1 (mcbpc_reads.sound b x.0 _ x.1.0).0

    pub no_row : {e : TextureParseError} → row_read b ≡ no e → SaysParts d (Err e) (mapped parts_of (read_header b))
    unfolding read_header
    no_row {e} q = go (read_mcbpc b) refl q
      where
        go : (m : Res Mcbpc) → read_mcbpc b ≡ m → mapped row_of m ≡ no e → SaysParts d (Err e) (mapped parts_of (bind (read_mcbpc b) (λ m r. bind (read_rest (changes_at (row_of m)) r) (λ c r. ok (m, c) r))))
        go (ok x r) f z = absurd (let n : ◌≡◌ {A = ℕ} 0 1 = cc in omega arith)
        go (no x) f z = let n : x ≡ e = cc in no_first parts_of (read_mcbpc b) _ (f ∙ ap no n)

    pub parts_said : {i : ℕ} {s : Bits} (r : Result (HeaderParts × Cursor) TextureParseError) → row_read b ≡ ok i s → SaysParts d r (mapped (with_rest i) (read_rest (changes_at i) s)) → SaysParts d r (mapped parts_of (read_header b))
    unfolding read_header
    parts_said {i} {s} r q t =
        let x = mapped-ok row_of (read_mcbpc b) q in
        let m : Mcbpc = x.0 in
        passed parts_of (read_mcbpc b) _ r x.1.0
        (subst⁻¹ (λ (y : Res HeaderParts). SaysParts d r y) (second parts_of m (read_rest (changes_at (row_of m)) s))
        (subst⁻¹ (λ (k : ℕ). SaysParts d r (mapped (with_rest k) (read_rest (changes_at k) s))) x.1.1 t))

-- ---- the fields that the parts say

delta_small : (o : Option ℕ) → nat_abs (delta_of o) ≤ 2
delta_small None = omega arith
delta_small (Some code) = go (eqb code 0) (eqb code 1) (eqb code 2)
  where
    go : (s t u : Bool) → nat_abs (cond s (negsuc 0) (cond t (negsuc 1) (cond u (pos 1) (pos 2)))) ≤ 2
    go true t u = omega arith
    go false true u = omega arith
    go false false true = omega arith
    go false false false = omega arith

pub good-parts : (h : Header) → GoodHeader h → PartsFine (parts_of h)
good-parts h g = (g.0, g.1.1.0, delta_small h.1.1.1)

pub fields_are : (p : HeaderParts) (q : ℕ) → PartsFine p → (kind : DerivedMbType) → kind ≡ type_by p.mcbpc → (delta : ℤ) → delta ≡ p.dquant_delta
    → (new : ℕ) → new ≡ limited_quantiser (pos q +ℤ p.dquant_delta)
    → record {
      header = record { not_coded = false; mb_type = kind; cbpc = p.mcbpc % 4; ac_pred_flag = eqb p.ac_pred_flag 1; cbpy = p.cbpy % 16 };
      dquant_delta = delta;
      quantiser_scale = new;
    } ≡ fields_by p q
fields_are p q h kind e delta f new g =
    let c : p.mcbpc % 4 ≡ cbpc_at p.mcbpc = sym (cbpc_is p.mcbpc h.0) in
    let m : p.cbpy % 16 ≡ p.cbpy = let l = h.1 in omega arith in
    let y : p.cbpy % 16 ≡ cbpy_at p.cbpy = m ∙ sym (cbpy_is p.cbpy h.1) in
    λ i. record {
      header = record { not_coded = false; mb_type = e i; cbpc = c i; ac_pred_flag = eqb p.ac_pred_flag 1; cbpy = y i };
      dquant_delta = f i;
      quantiser_scale = g i;
    }

-- a header whose parts were read
pub record Told (b : Bits) (p : HeaderParts) (r : Bits) : Type 0 where
  pub header : Header
  pub read : read_header b ≡ ok header r
  pub are : parts_of header ≡ p
  pub fine : PartsFine p

pub told : (b : Bits) (p : HeaderParts) (r : Bits) → mapped parts_of (read_header b) ≡ ok p r → Told b p r
told b p r q =
    let x = mapped-ok parts_of (read_header b) q in
    record { header = x.0; read = x.1.0; are = x.1.1; fine = subst PartsFine x.1.1 (good-parts x.0 (header_reads.sound b x.0 r x.1.0).0) }
