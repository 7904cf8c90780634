-- The answer to a header, case by case and by number, and what an answered one is. Assumes nothing.
use mathlib.Core.Bool.{Bool, cond, false, true}
use mathlib.Core.List.{List, [], ◌∷◌}
use mathlib.Core.Path.{◌≡◌, ap, ap₂, refl, sym, ◌∙◌}
use Prim.Native.Nat.{ℕ, ◌*◌, ◌+◌, ◌≤◌}
use native.Mathlib.Omega.{arith}
use lib.ListN.{length}
use Rattle.bits.specs.Bits.{Bits, bits_from}
use Rattle.bits.specs.Cursor.{cursor_at, in_data}
use Rattle.bits.specs.declared.cursor.Cursor.{Cursor}
use Rattle.numbers.proofs.Parts.{ok-parts}
use Rattle.numbers.specs.Outcome.{checked}
use Rattle.fields.proofs.ChainLaws.{place_is, rest-is}
use Rattle.fields.specs.Answer.{after}
use Rattle.fields.specs.Reader.{Res, no, ok}
use Rattle.fields.specs.declared.error.TextureParseError.{TextureParseError}
use Rattle.ranges.specs.Range.{quantiser_fine}
use Rattle.assembly.proofs.OutcomeLaws.{answered, read_by}
use Rattle.assembly.specs.declared.error.BlockAssemblyError.{BlockAssemblyError}
use Rattle.assembly.specs.declared.error.BlockAssemblyError.TheVariants.{Context, OutOfRange, Texture}
use Rattle.headers.proofs.HeaderLaws.{header_reads, header_sentences}
use Rattle.headers.proofs.PartLaws.{Told}
use Rattle.headers.specs.Answer.{answer_by, header_answer, header_state, header_told}
use Rattle.headers.specs.Fields.{fields_of}
use Rattle.headers.specs.Header.{GoodHeader, Header, header_bits}
use Rattle.headers.specs.HeaderReader.{read_header}
use Rattle.headers.specs.Inside.{fields_by}
use Rattle.headers.specs.Outcomes.{header_read_due, header_read_outcome, header_said}
use Rattle.headers.specs.declared.parse.HeaderFields.{HeaderFields}
use Rattle.headers.specs.declared.parts.HeaderParts.{HeaderParts}
use Rattle.std.specs.Prelude.{Err, Ok, Result, ⊤}

module _ (d : List ℕ) (at q : ℕ) where
  abbrev b : Bits
  b = bits_from d at

  abbrev stated : Bool → Bool → Result ⊤ BlockAssemblyError
  stated s t = cond s (cond t (Ok tt) (Err Context)) (Err OutOfRange)

  -- by number
  pub header_read_due_lem : header_read_outcome (header_answer d at q) ≡ header_read_due d at q
  unfolding header_answer header_state
  header_read_due_lem =
      answered header_read_outcome (λ (k : Result ⊤ BlockAssemblyError). answer_by k (header_told d q (read_header b))) (λ e. refl) ((in_data (length d) at, OutOfRange) ∷ (quantiser_fine q, Context) ∷ []) (refl, (refl, tt))
      ∙ ap (checked ((in_data (length d) at, 11) ∷ (quantiser_fine q, 12) ∷ [])) (read_by header_read_outcome (header_told d q) (header_said q) d (λ a r. refl) (λ e. refl) (read_header b))

  pub header-out : in_data (length d) at ≡ false → Err OutOfRange ≡ header_answer d at q
  unfolding header_answer header_state
  header-out e = sym (ap (λ (s : Bool). answer_by (stated s (quantiser_fine q)) (header_told d q (read_header b))) e)

  -- once the tests pass: what the parts say, or the refusal
  pub refused_told : {x : TextureParseError} → read_header b ≡ no x → Err (Texture x) ≡ header_told d q (read_header b)
  refused_told k = sym (ap (header_told d q) k)

  pub given_told : (p : HeaderParts) (next : Cursor) → next.bit_pos ≤ 8 * length d → Told b p (bits_from d next.bit_pos) → (fs : HeaderFields) → fs ≡ fields_by p q → Ok (fs, next) ≡ header_told d q (read_header b)
  given_told p next l t fs g = ap₂ (λ (y : HeaderFields) (c : Cursor). Ok (y, c)) (g ∙ ap (λ (y : HeaderParts). fields_by y q) (sym t.are)) (place_is d next l) ∙ sym (ap (header_told d q) t.read)

  module _ (e : in_data (length d) at ≡ true) where
    pub header-context : quantiser_fine q ≡ false → Err Context ≡ header_answer d at q
    unfolding header_answer header_state
    header-context f = sym (ap₂ (λ (s t : Bool). answer_by (stated s t) (header_told d q (read_header b))) e f)

    module _ (f : quantiser_fine q ≡ true) where
      -- the tests pass
      pub header_read : header_answer d at q ≡ header_told d q (read_header b)
      unfolding header_answer header_state
      header_read = ap₂ (λ (s t : Bool). answer_by (stated s t) (header_told d q (read_header b))) e f

      pub header_refused : {x : TextureParseError} → read_header b ≡ no x → Err (Texture x) ≡ header_answer d at q
      header_refused k = refused_told k ∙ sym header_read

      pub header-given : (p : HeaderParts) (next : Cursor) → next.bit_pos ≤ 8 * length d → Told b p (bits_from d next.bit_pos) → (fs : HeaderFields) → fs ≡ fields_by p q → Ok (fs, next) ≡ header_answer d at q
      header-given p next l t fs g = given_told p next l t fs g ∙ sym header_read

-- ---- an answered header

-- of bits that begin with it, up to `next`
pub record HeaderIs (d : List ℕ) (at q : ℕ) (fs : HeaderFields) (next : Cursor) : Type 0 where
  pub header : Header
  pub good : GoodHeader header
  pub read : read_header (bits_from d at) ≡ ok header (bits_from d next.bit_pos)
  pub says : fs ≡ fields_of q header
  pub inside : next.bit_pos ≤ 8 * length d
  pub place : next ≡ cursor_at (at + length (header_bits header))

module _ (d : List ℕ) (at q : ℕ) (inside : at ≤ 8 * length d) (r : Result (HeaderFields × Cursor) BlockAssemblyError) (e : r ≡ header_told d q (read_header (bits_from d at))) where
  pub header_is : {fs : HeaderFields} {next : Cursor} → r ≡ Ok (fs, next) → HeaderIs d at q fs next
  header_is {fs} {next} k = go (read_header (bits_from d at)) refl (sym k ∙ e)
    where
      go : (m : Res Header) → read_header (bits_from d at) ≡ m → Ok (fs, next) ≡ header_told d q m → HeaderIs d at q fs next
      go (ok h s) f z =
          let x = header_reads.sound (bits_from d at) h s f in
          let n : next ≡ after d s = (ok-parts z).1 in
          let y : bits_from d next.bit_pos ≡ s = ap (λ (c : Cursor). bits_from d c.bit_pos) n ∙ rest-is d at inside (header_bits h) s x.1 in
          record {
            header = h;
            good = x.0;
            read = f ∙ ap (ok h) (sym y);
            says = (ok-parts z).0;
            inside = let m = ap (λ (c : Cursor). c.bit_pos) n in omega arith;
            place = n ∙ header_sentences.position d at inside h s f;
          }
      go (no x) f z = absurd (let n : ◌≡◌ {A = ℕ} 0 1 = cc in omega arith)

  -- a refused one is refused by its bits
  pub header-not : {x : BlockAssemblyError} → r ≡ Err x → (y : TextureParseError) × ((read_header (bits_from d at) ≡ no y) × (x ≡ Texture y))
  header-not {x} k = go (read_header (bits_from d at)) refl (sym k ∙ e)
    where
      go : (m : Res Header) → read_header (bits_from d at) ≡ m → Err x ≡ header_told d q m → (y : TextureParseError) × ((read_header (bits_from d at) ≡ no y) × (x ≡ Texture y))
      go (ok h s) f z = absurd (let n : ◌≡◌ {A = ℕ} 0 1 = cc in omega arith)
      go (no y) f z = (y, (f, cc))
