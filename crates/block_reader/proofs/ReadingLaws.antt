-- The code's reading of a block, part by part, is the reader's. Assumes nothing.
use mathlib.Core.Bool.{Bool, cond, false, true}
use mathlib.Core.List.{List}
use mathlib.Core.Path.{◌≡◌, ap, ap₂, refl, sym, subst, ◌∙◌}
use Prim.Native.Nat.{ℕ, ◌*◌, ◌+◌, ◌≤◌}
use native.Mathlib.Omega.{arith}
use lib.IntN.{nat_abs, ℤ}
use lib.ListN.{drop, length, length-append}
use lib.Seq.{drop_at}
use Rattle.bits.proofs.BitLaws.{length-bits_from}
use Rattle.bits.proofs.CursorLaws.{in_data_by, in_data_yes}
use Rattle.bits.specs.Bits.{Bits, bits_from}
use Rattle.bits.specs.Cursor.{cursor_at, in_data}
use Rattle.bits.specs.declared.cursor.Cursor.{Cursor}
use Rattle.codes.specs.declared.dc_size.DcComponent.{DcComponent}
use Rattle.codes.specs.declared.tcoef_tables.TcoefTable.TheVariants.{Intra}
use Rattle.fields.proofs.ChainLaws.{place_is}
use Rattle.sentences.proofs.Reading.{dc_reads}
use Rattle.sentences.proofs.Sentences.{dc_sentences}
use Rattle.fields.proofs.StepLaws.{from_on}
use Rattle.fields.specs.Answer.{after}
use Rattle.dc_parts.specs.Answer.{dc_answer, dc_told, dc_value}
use Rattle.texture.specs.Answer.{list_answer as eventsAnswer, list_told, places_after, places_told}
use Rattle.sentences.specs.ComposeReader.{read_opt}
use Rattle.dc_parts.specs.Dc.{Dc, dc, dc_bits}
use Rattle.dc_parts.specs.DcReader.{read_dc}
use Rattle.events.specs.Event.{◌▸◌}
use Rattle.events.specs.Spellings.{no_spellings, spellings_of}
use Rattle.events.specs.declared.spelling.Spellings.{Spellings}
use Rattle.texture.specs.Events.{Events, first_place}
use Rattle.texture.specs.EventsReader.{list}
use Rattle.sentences.specs.Macroblock.{Parts}
use Rattle.texture.specs.Places.{zeros}
use Rattle.fields.specs.Reader.{Res, ok, no, bind, mapped}
use Rattle.dc_parts.specs.declared.dc.IntraDcDifferential.{IntraDcDifferential}
use Rattle.fields.specs.declared.error.TextureParseError.{TextureParseError}
use Rattle.fields.specs.declared.error.TextureParseError.TheVariants.{OutOfRange}
use Rattle.numbers.proofs.Parts.{ok-parts}
use Rattle.block_reader.proofs.PlaceLaws.{difference_small}
use Rattle.block_reader.specs.Reading.{list_answer, list_at, list_read, parts_at, parts_read, places_answer, refused_by, with_difference}
use Rattle.block_reader.specs.declared.read.PlacesRead.{PlacesRead}
use Rattle.std.specs.Prelude.{Err, Ok, Result, Option, None, Some}

-- ---- inside the data, and outside it

-- a reading inside the data, and 11 outside it
abbrev inside : Bool → PlacesRead → PlacesRead
inside t one = cond t one (refused_by OutOfRange)

module _ (d : List ℕ) (at : ℕ) where
  pub answer-inside : (m : DcComponent) (coded dc_coded rev : Bool) → in_data (length d) at ≡ true → places_answer d at m coded dc_coded rev ≡ parts_at d at m coded dc_coded rev
  answer-inside m coded dc_coded rev e = ap (λ (t : Bool). inside t (parts_at d at m coded dc_coded rev)) e

  pub list_outside : (coded dc_coded rev : Bool) → in_data (length d) at ≡ false → refused_by OutOfRange ≡ list_answer d at coded dc_coded rev
  list_outside coded dc_coded rev e = sym (ap (λ (t : Bool). inside t (list_at d at coded dc_coded rev)) e)

-- ---- the list, if the block is coded

pub not_coded_lem : (d : List ℕ) (c : Cursor) (n : Spellings) (dc_coded rev : Bool) → n ≡ no_spellings → in_data (length d) c.bit_pos ≡ true
    → record { answer = Ok (c, n); qfs = zeros } ≡ list_answer d c.bit_pos false dc_coded rev
unfolding spellings_of
not_coded_lem d c n dc_coded rev q e =
    ap₂ {C = PlacesRead} (λ (x : Cursor) (k : Spellings). record { answer = Ok (x, k); qfs = zeros }) (place_is d c (in_data_yes (length d) c.bit_pos e).1) q
    ∙ sym (ap (λ (t : Bool). inside t (list_at d c.bit_pos false dc_coded rev)) e)

module _ (d : List ℕ) (at : ℕ) (dc_coded rev : Bool) where
  both : (x : Res Events) → ◌≡◌ {A = PlacesRead} (record { answer = list_told d x; qfs = places_told Intra (first_place dc_coded) x zeros }) (list_read d dc_coded (bind x (λ a r. ok (Some a) r)))
  both (ok es r) = refl
  both (no e) = refl

  pub is_coded : (a : Result (Cursor × Spellings) TextureParseError) (qfs : List ℤ) → a ≡ eventsAnswer d at rev Intra dc_coded → qfs ≡ places_after d at rev Intra dc_coded zeros
      → record { answer = a; qfs = qfs } ≡ list_answer d at true dc_coded rev
  is_coded a qfs e f =
      ap₂ {C = PlacesRead} (λ (x : Result (Cursor × Spellings) TextureParseError) (y : List ℤ). record { answer = x; qfs = y }) e f
      ∙ go (in_data (length d) at) (list rev Intra (first_place dc_coded) (bits_from d at))
    where
      go : (t : Bool) (x : Res Events)
          → ◌≡◌ {A = PlacesRead} (record { answer = cond t (list_told d x) (Err OutOfRange); qfs = cond t (places_told Intra (first_place dc_coded) x zeros) zeros })
          (inside t (list_read d dc_coded (bind x (λ a r. ok (Some a) r))))
      go true x = both x
      go false x = refl

  -- without DC codes the list is the block
  alone : (m : DcComponent) (x : Res (Option Events)) → list_read d false x ≡ parts_read d m false (bind x (λ l r. ok (None, l) r))
  alone m (ok l r) = refl
  alone m (no e) = refl

  pub no-dc : (m : DcComponent) (coded : Bool) → list_answer d at coded false rev ≡ places_answer d at m coded false rev
  no-dc m coded = ap (inside (in_data (length d) at)) (alone m (read_opt coded (list rev Intra 0) (bits_from d at)))

-- ---- the DC part, then the list

pub record Next (d : List ℕ) (at : ℕ) (m : DcComponent) (coded rev : Bool) (v : IntraDcDifferential) (next : Cursor) : Type 0 where
  pub low : nat_abs v.differential ≤ 4095
  pub is : with_difference (list_answer d next.bit_pos coded true rev).answer (list_answer d next.bit_pos coded true rev).qfs v.differential ≡ places_answer d at m coded true rev

module _ (d : List ℕ) (at : ℕ) (m : DcComponent) (coded rev : Bool) where
  abbrev b : Bits
  b = bits_from d at

  abbrev list_of : Bits → Res (Option Events)
  list_of r = read_opt coded (list rev Intra 1) r

  abbrev parts : Res Dc → Res Parts
  parts x = bind (bind x (λ a r. ok (Some a) r)) (λ a r. bind (list_of r) (λ l r. ok (a, l) r))

  pub dc-refused : (e : TextureParseError) → Err e ≡ dc_answer d at m → refused_by e ≡ places_answer d at m coded true rev
  dc-refused e q = go (in_data (length d) at) (read_dc m b) q
    where
      go : (t : Bool) (x : Res Dc) → Err e ≡ cond t (dc_told d (mapped (dc_value m) x)) (Err OutOfRange) → refused_by e ≡ inside t (parts_read d m true (parts x))
      go true (ok a r) q = absurd (let z : ◌≡◌ {A = ℕ} 0 1 = cc in omega arith)
      go true (no n) q = let f : e ≡ n = cc in ap refused_by f
      go false x q = let f : e ≡ OutOfRange = cc in ap refused_by f

  -- a DC part that was read lies in the data
  module _ (v : IntraDcDifferential) (next : Cursor) (q : Ok (v, next) ≡ dc_answer d at m) where
    dc_in : in_data (length d) at ≡ true
    dc_in = go (in_data (length d) at) q
      where
        go : (t : Bool) → Ok (v, next) ≡ cond t (dc_told d (mapped (dc_value m) (read_dc m b))) (Err OutOfRange) → t ≡ true
        go true q = refl
        go false q = absurd (let z : ◌≡◌ {A = ℕ} 0 1 = cc in omega arith)

    two : (i a : ℕ) (y : Res (Option Events)) → with_difference (list_read d true y).answer (list_read d true y).qfs (dc_value m (dc i a)).differential
        ≡ parts_read d m true (bind y (λ l r. ok (Some (dc i a), l) r))
    two i a (ok l r) = refl
    two i a (no n) = refl

    pub dc-next : Next d at m coded rev v next
    dc-next = go (read_dc m b) refl (q ∙ ap (λ (t : Bool). cond t (dc_told d (mapped (dc_value m) (read_dc m b))) (Err OutOfRange)) dc_in)
      where
        go : (x : Res Dc) → read_dc m b ≡ x → Ok (v, next) ≡ dc_told d (mapped (dc_value m) x) → Next d at m coded rev v next
        go (no n) e q = absurd (let z : ◌≡◌ {A = ℕ} 0 1 = cc in omega arith)
        go (ok (dc i a) r) e q =
            let h = in_data_yes (length d) at dc_in in
            let f : v ≡ dc_value m (dc i a) = (ok-parts q).0 in
            let g : next ≡ after d r = (ok-parts q).1 in
            let s : b ≡ dc_bits m (dc i a) ▸ r = ((dc_reads m).sound b (dc i a) r e).1 in
            let n = ap length s ∙ length-append (dc_bits m (dc i a)) r in
            let k = length-bits_from d at in
            let p : next ≡ cursor_at (at + length (dc_bits m (dc i a))) = g ∙ (dc_sentences m).position d at h.1 (dc i a) r e in
            let w : bits_from d next.bit_pos ≡ r =
            ap (λ (y : Cursor). bits_from d y.bit_pos) p ∙ sym (from_on d at (length (dc_bits m (dc i a)))) ∙ ap (drop (length (dc_bits m (dc i a)))) s
            ∙ drop_at (dc_bits m (dc i a)) r (length (dc_bits m (dc i a))) refl in
            let l : next.bit_pos ≤ 8 * length d = subst (λ (y : Cursor). y.bit_pos ≤ 8 * length d) (sym p) (let l = h.1 in omega arith) in
            record {
              low = subst (λ (y : IntraDcDifferential). nat_abs y.differential ≤ 4095) (sym f) (difference_small m (dc i a) ((dc_reads m).sound b (dc i a) r e).0);
              is = ap (λ (t : Bool). with_difference (inside t (list_at d next.bit_pos coded true rev)).answer (inside t (list_at d next.bit_pos coded true rev)).qfs v.differential) (in_data_by (length d) next.bit_pos h.0 l)
                  ∙ ap₂ (λ (y : Bits) (z : IntraDcDifferential). with_difference (list_read d true (list_of y)).answer (list_read d true (list_of y)).qfs z.differential) w f
                  ∙ two i a (list_of r) ∙ sym (ap (λ (x : Res Dc). parts_read d m true (parts x)) e) ∙ sym (answer-inside d at m coded true rev dc_in);
            }
