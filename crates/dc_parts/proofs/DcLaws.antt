-- The reader of a DC part reads its grammar and is stopped where a part breaks off, and the answer to one, case by case. Assumes nothing.
use mathlib.Core.Bool.{Bool, cond, false, true}
use mathlib.Core.List.{List, [], ◌++◌, ◌∷◌, append_assoc}
use mathlib.Core.Path.{◌≡◌, ◌∙◌, ap, ap₂, refl, subst₂, sym}
use Prim.Native.Nat.{◌<◌, ◌^◌, ◌≤◌, ℕ, ◌*◌}
use native.Mathlib.Omega.{arith}
use lib.Dec.{leb}
use lib.IntN.{ℤ}
use lib.ListN.{get_or, length}
use Rattle.bits.specs.Bits.{Bits, bin, bits_from}
use Rattle.bits.specs.Cursor.{in_data}
use Rattle.bits.specs.declared.cursor.Cursor.{Cursor}
use Rattle.codes.proofs.PrefixFree.{dc_prefix_free, dc-rows, sizes_count}
use Rattle.codes.specs.DcSize.{dc_codes, dc_lens}
use Rattle.codes.specs.Table.{code_bits}
use Rattle.codes.specs.declared.dc_size.DcComponent.{DcComponent}
use Rattle.dc_parts.specs.Answer.{dc_answer, dc_told, dc_value}
use Rattle.dc_parts.specs.Dc.{Dc, dc, size_at, dc_bits, GoodDc, difference_of, differential_of}
use Rattle.dc_parts.specs.DcReader.{dc_tail, read_dc}
use Rattle.dc_parts.specs.declared.dc.IntraDcDifferential.{IntraDcDifferential}
use Rattle.fields.proofs.ChainLaws.{First, place_is, refused_first}
use Rattle.fields.proofs.ReadLaws.{bind_ok, code-sound, field-sound, marker-sound}
use Rattle.fields.proofs.TakeLaws.{Takes, code-takes, field-takes, last-takes, marker-takes, nothing_takes, then_takes}
use Rattle.fields.specs.Answer.{code_answer}
use Rattle.fields.specs.Reader.{no, ok, bind, field, code, marker, Res, mapped}
use Rattle.fields.specs.declared.error.TextureParseError.{TextureParseError}
use Rattle.fields.specs.declared.error.TextureParseError.TheVariants.{OutOfRange, InvalidDcSize, MarkerBitMissing}
use Rattle.numbers.proofs.Fill.{get_or-build}
use Rattle.numbers.specs.Grid.{build}
use Rattle.std.specs.Prelude.{Err, Ok, Result}

-- row i says size i, so a size is at most 12
pub size_is : (c : DcComponent) (i : ℕ) → i < 13 → size_at c i ≡ i
unfolding build
size_is c i h = ap (λ (l : List ℕ). get_or l i 0) (sizes_count c) ∙ counts i h
  where
    counts : (i : ℕ) → i < 13 → get_or (0 ∷ 1 ∷ 2 ∷ 3 ∷ 4 ∷ 5 ∷ 6 ∷ 7 ∷ 8 ∷ 9 ∷ 10 ∷ 11 ∷ 12 ∷ []) i 0 ≡ i
    counts i h = get_or-build 13 (λ (k : ℕ). k) i 0 h

-- the bits after the code
abbrev pub marker_of : ℕ → Bits
marker_of n = cond (leb n 8) [] (bin 1 1)

tail_sound : (n : ℕ) (b : Bits) {a : ℕ} {r : Bits} → dc_tail n b ≡ ok a r → (a < 2 ^ n) × (b ≡ bin n a ++ (marker_of n ++ r))
unfolding dc_tail
tail_sound n b {a} {r} q =
    let x = bind_ok (field n b) _ q in
    let f = field-sound n b x.first in
    go (leb n 8) x.got x.rest f.0 f.1 x.then
  where
    go : (t : Bool) (v : ℕ) (s : Bits) → v < 2 ^ n → b ≡ bin n v ++ s → cond t (ok v s) (bind (marker MarkerBitMissing s) (λ _ r. ok v r)) ≡ ok a r
        → (a < 2 ^ n) × (b ≡ bin n a ++ (cond t [] (bin 1 1) ++ r))
    go true v s h e z =
        let e₁ : v ≡ a = cc in
        let e₂ : s ≡ r = cc in
        (rw (← e₁) h, e ∙ ap₂ (λ (i : ℕ) (k : Bits). bin n i ++ k) e₁ e₂)
    go false v s h e z =
        let y = bind_ok (marker MarkerBitMissing s) (λ _ r. ok v r) z in
        let m = marker-sound MarkerBitMissing s y.first in
        let w : ok v y.rest ≡ ok a r = y.then in
        let e₁ : v ≡ a = cc in
        let e₂ : y.rest ≡ r = cc in
        (rw (← e₁) h, e ∙ ap₂ (λ (i : ℕ) (k : Bits). bin n i ++ k) e₁ (m ∙ ap (λ (k : Bits). bin 1 1 ++ k) e₂))

tail_takes : (n a : ℕ) → a < 2 ^ n → Takes (dc_tail n) (bin n a ++ marker_of n) a
unfolding dc_tail
tail_takes n a h = then_takes (field n) _ (field-takes n a h) (go (leb n 8))
  where
    go : (t : Bool) → Takes (λ r. cond t (ok a r) (bind (marker MarkerBitMissing r) (λ _ r. ok a r))) (cond t [] (bin 1 1)) a
    go true = nothing_takes a
    go false = last-takes (marker MarkerBitMissing) _ (marker-takes MarkerBitMissing) (λ s. refl)

module _ (c : DcComponent) where
  enough : 13 ≤ length (dc_codes c)
  enough = let n = (dc-rows c).0 in omega arith

  pub dc-sound : (b : Bits) (x : Dc) (r : Bits) → read_dc c b ≡ ok x r → GoodDc c x × (b ≡ dc_bits c x ++ r)
  unfolding read_dc GoodDc dc_bits
  dc-sound b x r q =
      let u = bind_ok (code (dc_codes c) (dc_lens c) 13 13 InvalidDcSize b) _ q in
      let v = bind_ok (dc_tail (size_at c u.got) u.rest) _ u.then in
      let f = code-sound (dc_codes c) (dc_lens c) 13 13 InvalidDcSize b u.first in
      let g = tail_sound (size_at c u.got) u.rest v.first in
      let w : ok (dc u.got v.got) v.rest ≡ ok x r = v.then in
      let e₁ : dc u.got v.got ≡ x = cc in
      let e₂ : v.rest ≡ r = cc in
      subst₂ (λ (y : Dc) (z : Bits). GoodDc c y × (b ≡ dc_bits c y ++ z)) e₁ e₂
      ((f.0, g.0), f.1 ∙ ap (λ (k : Bits). code_bits (dc_codes c) (dc_lens c) u.got ++ k) g.1 ∙ simp append_assoc)

  -- and where a DC part breaks off it is stopped
  pub dc-takes : (x : Dc) → GoodDc c x → Takes (read_dc c) (dc_bits c x) x
  unfolding read_dc GoodDc dc_bits
  dc-takes (dc i a) h =
      then_takes (code (dc_codes c) (dc_lens c) 13 13 InvalidDcSize) _ (code-takes (dc_codes c) (dc_lens c) 13 13 InvalidDcSize (dc_prefix_free c) enough i h.0)
      (last-takes (dc_tail (size_at c i)) _ (tail_takes (size_at c i) a h.1) (λ s. refl))

-- ---- the answer, case by case

module _ (d : List ℕ) (at : ℕ) (c : DcComponent) where
  abbrev b : Bits
  b = bits_from d at

  abbrev coded : Res ℕ
  coded = code (dc_codes c) (dc_lens c) 13 13 InvalidDcSize b

  abbrev coded_answer : Result (ℕ × Cursor) TextureParseError
  coded_answer = code_answer d at (dc_codes c) (dc_lens c) 13 13 InvalidDcSize

  pub dc-no-code : (g : Result (ℕ × Cursor) TextureParseError) {e : TextureParseError} → g ≡ coded_answer → g ≡ Err e → Err e ≡ dc_answer d at c
  unfolding read_dc
  dc-no-code g q f = refused_first d (λ (x : Res Dc). dc_told d (mapped (dc_value c) x)) Err (λ e. refl) (in_data (length d) at) coded _ g q f

  module _ (g : Result (ℕ × Cursor) TextureParseError) (i : ℕ) (next : Cursor) (k : First d at coded g i next) where
    pub row_small : i < 13
    row_small = (code-sound (dc_codes c) (dc_lens c) 13 13 InvalidDcSize b k.read).0

    abbrev left : Bits
    left = bits_from d next.bit_pos

    abbrev tailed : Res ℕ → Res Dc
    tailed x = bind x (λ a r. ok (dc i a) r)

    tail_at : (x : Res ℕ) → dc_tail i left ≡ x → dc_told d (mapped (dc_value c) (tailed x)) ≡ dc_answer d at c
    unfolding read_dc
    tail_at x p =
        sym (ap (λ (t : Bool). cond t (dc_told d (mapped (dc_value c) (read_dc c b))) (Err OutOfRange)) k.in_data_lem
        ∙ ap (λ (y : Res ℕ). dc_told d (mapped (dc_value c) (bind y (λ i r. bind (dc_tail (size_at c i) r) (λ a r. ok (dc i a) r))))) k.read
        ∙ ap (λ (y : Res ℕ). dc_told d (mapped (dc_value c) (tailed y))) (ap (λ (n : ℕ). dc_tail n left) (size_is c i row_small) ∙ p))

    pub dc_no_tail : {e : TextureParseError} → dc_tail i left ≡ no e → Err e ≡ dc_answer d at c
    dc_no_tail {e} p = tail_at (no e) p

    pub dc-given : (a : ℕ) (after : Cursor) (z : ℤ) → after.bit_pos ≤ 8 * length d → dc_tail i left ≡ ok a (bits_from d after.bit_pos) → z ≡ differential_of i a
        → Ok (record { size = i; differential = z }, after) ≡ dc_answer d at c
    unfolding difference_of
    dc-given a after z l p e =
        let s = sym (size_is c i row_small) in
        ap₂ (λ (x : IntraDcDifferential) (y : Cursor). Ok (x, y)) (ap₂ {C = IntraDcDifferential} (λ (x : ℕ) (y : ℤ). record { size = x; differential = y }) s (e ∙ ap (λ (n : ℕ). differential_of n a) s)) (place_is d after l)
        ∙ tail_at (ok a (bits_from d after.bit_pos)) p

    pub tail_small : (a : ℕ) (s : Bits) → dc_tail i left ≡ ok a s → (i ≤ 12) × (a < 2 ^ i)
    tail_small a s p = (let l = row_small in omega arith, (tail_sound i left p).0)
