-- How the answers of the code go together as the reader's steps do: a part refused, or it gave a number and the rest goes on from its position to an event. Assumes nothing.
use mathlib.Core.Bool.{Bool, cond, false, true}
use mathlib.Core.List.{List, ◌++◌, append_assoc}
use mathlib.Core.Path.{◌≡◌, refl, sym, ap, subst, subst⁻¹, ◌∙◌}
use Prim.Native.Nat.{◌*◌, ◌<◌, ◌≤◌, ◌^◌, ℕ}
use native.Mathlib.Omega.{arith}
use lib.Dec.{eqb}
use lib.ListN.{length}
use Rattle.bits.proofs.CursorLaws.{in_data_by}
use Rattle.bits.specs.Bits.{Bits, bin, bits_from}
use Rattle.bits.specs.Cursor.{in_data}
use Rattle.bits.specs.declared.cursor.Cursor.{Cursor}
use Rattle.codes.specs.declared.tcoef_tables.TcoefTable.{TcoefTable}
use Rattle.events.proofs.EitherLaws.{event-sound}
use Rattle.events.proofs.EventLaws.{fixed-sound}
use Rattle.events.proofs.RowLaws.{row_of_is}
use Rattle.events.proofs.RvlcLaws.{rvlc-escaped-sound}
use Rattle.events.specs.Answer.{event_answer, event_told, fixed_answer, rvlc_escape_answer, sign_answer}
use Rattle.events.specs.Event.{Event, ◌▸◌, event_bits, value_of, last_number, level_of, run_of, rvlc_escape, spelling_of, type3}
use Rattle.events.specs.EventReader.{event, fixed, run_and_level, rvlc_escaped, rvlc_run, sign, spelled}
use Rattle.events.specs.Inside.{said_event, InsideEvent, SaysEvent, marked, rvlc_settled, settled}
use Rattle.events.specs.Rows.{RowIn, columns, row_of}
use Rattle.events.specs.declared.event.AcEvent.{AcEvent}
use Rattle.events.specs.declared.event.RowForm.{RowForm}
use Rattle.fields.proofs.ChainLaws.{field_asked, number_is, place_is, refused_first, refused-is, rest-is}
use Rattle.fields.proofs.ReadLaws.{bind_ok, field-sound, no_ok}
use Rattle.fields.specs.Answer.{field_answer, got_told}
use Rattle.fields.specs.Inside.{Readable, SaysNumber}
use Rattle.fields.specs.Reader.{Res, ok, no, bind, field, mapped, marker}
use Rattle.fields.specs.declared.error.TextureParseError.{TextureParseError}
use Rattle.fields.specs.declared.error.TextureParseError.TheVariants.{EscapeMarkerBitMissing, OutOfRange, ReservedEscapeLevel}
use Rattle.numbers.proofs.Parts.{err_by}
use Rattle.std.specs.Prelude.{Err, IsErr, IsErrAnd, Ok, Result}

-- ---- n bits and a marker

-- one step, or two
marked_then : {A : Type 0} (n : ℕ) (b : Bits) (k : ℕ → Bits → Res A) → bind (marked n b) k ≡ bind (field n b) (λ v r. bind (marker EscapeMarkerBitMissing r) (λ _ r. k v r))
unfolding marked
marked_then {A} n b k = first (field n b)
  where
    second : (v : ℕ) (m : Res ℕ) → bind (bind m (λ _ r. ok v r)) k ≡ bind m (λ _ r. k v r)
    second v (ok m r) = refl
    second v (no e) = refl

    first : (m : Res ℕ) → bind (bind m (λ v r. bind (marker EscapeMarkerBitMissing r) (λ _ r. ok v r))) k ≡ bind m (λ v r. bind (marker EscapeMarkerBitMissing r) (λ _ r. k v r))
    first (ok v r) = second v (marker EscapeMarkerBitMissing r)
    first (no e) = refl

pub marked-lt : (n : ℕ) (b : Bits) {v : ℕ} {r : Bits} → marked n b ≡ ok v r → v < 2 ^ n
unfolding marked
marked-lt n b {v} {r} q =
    let x = bind_ok (field n b) _ q in
    let y = bind_ok (marker EscapeMarkerBitMissing x.rest) _ x.then in
    let w : ok x.got y.rest ≡ ok v r = y.then in
    let e : x.got ≡ v = cc in
    subst (λ (i : ℕ). i < 2 ^ n) e (field-sound n b x.first).0

-- ---- a number, then an event

module _ (d : List ℕ) (t : TcoefTable) where
  pub refused : (k : ℕ → Bits → Res Event) (g : Result (ℕ × Cursor) TextureParseError) (m : Res ℕ) {e : TextureParseError} → SaysNumber d g m → g ≡ Err e
      → SaysEvent d (Err e) (mapped (value_of t) (bind m k))
  refused k g m s q = record { is = sym (ap (λ (x : Res ℕ). mapped (value_of t) (bind x k)) (refused-is d g m s q)); inside = tt }

  pub passed : (k : ℕ → Bits → Res Event) (g : Result (ℕ × Cursor) TextureParseError) (m : Res ℕ) {v : ℕ} {c : Cursor} {r : Result (AcEvent × Cursor) TextureParseError} → SaysNumber d g m → g ≡ Ok (v, c)
      → SaysEvent d r (mapped (value_of t) (k v (bits_from d c.bit_pos))) → SaysEvent d r (mapped (value_of t) (bind m k))
  passed k g m s q u = record { is = u.is ∙ sym (ap (λ (x : Res ℕ). mapped (value_of t) (bind x k)) (number_is d g m s q)); inside = u.inside }

  -- a refusal that `?` hands on
  pub handed : {r : Result (AcEvent × Cursor) TextureParseError} {e : TextureParseError} (m : Res AcEvent) → IsErr r × IsErrAnd r (λ x. x ≡ e) → SaysEvent d (Err e) m → SaysEvent d r m
  handed m h s = subst⁻¹ (λ (r : Result (AcEvent × Cursor) TextureParseError). SaysEvent d r m) (err_by h) s

  -- with its marker
  module _ (n : ℕ) (b : Bits) (k : ℕ → Bits → Res Event) (g : Result (ℕ × Cursor) TextureParseError) (s : SaysNumber d g (marked n b)) where
    abbrev Whole : Result (AcEvent × Cursor) TextureParseError → Type 0
    Whole r = SaysEvent d r (mapped (value_of t) (bind (field n b) (λ v r. bind (marker EscapeMarkerBitMissing r) (λ _ r. k v r))))

    whole : (r : Result (AcEvent × Cursor) TextureParseError) → SaysEvent d r (mapped (value_of t) (bind (marked n b) k)) → Whole r
    whole r u = subst (λ (x : Res Event). SaysEvent d r (mapped (value_of t) x)) (marked_then n b k) u

    pub refused_m : {e : TextureParseError} → g ≡ Err e → Whole (Err e)
    refused_m {e} q = whole (Err e) (refused k g (marked n b) s q)

    pub passed_m : {v : ℕ} {c : Cursor} {r : Result (AcEvent × Cursor) TextureParseError} → g ≡ Ok (v, c) → SaysEvent d r (mapped (value_of t) (k v (bits_from d c.bit_pos))) → Whole r
    passed_m {v} {c} {r} q u = whole r (passed k g (marked n b) s q u)

  pub if_so : {r : Result (AcEvent × Cursor) TextureParseError} (b : Bool) (x y : Res Event) → b ≡ true → SaysEvent d r (mapped (value_of t) x) → SaysEvent d r (mapped (value_of t) (cond b x y))
  if_so {r} b x y e s = subst⁻¹ (λ (b : Bool). SaysEvent d r (mapped (value_of t) (cond b x y))) e s

  pub if_not : {r : Result (AcEvent × Cursor) TextureParseError} (b : Bool) (x y : Res Event) → b ≡ false → SaysEvent d r (mapped (value_of t) y) → SaysEvent d r (mapped (value_of t) (cond b x y))
  if_not {r} b x y e s = subst⁻¹ (λ (b : Bool). SaysEvent d r (mapped (value_of t) (cond b x y))) e s

  -- the event itself
  pub made_by : (e : Event) (c : Cursor) (r : Result (AcEvent × Cursor) TextureParseError) → r ≡ Ok (value_of t e, c) → c.bit_pos ≤ 8 * length d → SaysEvent d r (ok (value_of t e) (bits_from d c.bit_pos))
  made_by e c r q h = record { is = ap (said_event d) q; inside = subst⁻¹ (InsideEvent d) q h }

  -- ---- escapes whose bits are read

  -- the answer for a type 3 escape is the reader's
  pub settled_says : (l n v : ℕ) (c : Cursor) (r : Result (AcEvent × Cursor) TextureParseError) → r ≡ settled l n v c → c.bit_pos ≤ 8 * length d
      → SaysEvent d r (mapped (value_of t) (cond (eqb v 0) (no ReservedEscapeLevel) (cond (eqb v 2048) (no ReservedEscapeLevel) (ok (type3 l n v) (bits_from d c.bit_pos)))))
  unfolding last_number run_of level_of spelling_of
  settled_says l n v c r q h = go (eqb v 0) (eqb v 2048) q
    where
      go : (a b : Bool) → r ≡ cond a (Err ReservedEscapeLevel) (cond b (Err ReservedEscapeLevel) (Ok (value_of t (type3 l n v), c)))
          → SaysEvent d r (mapped (value_of t) (cond a (no ReservedEscapeLevel) (cond b (no ReservedEscapeLevel) (ok (type3 l n v) (bits_from d c.bit_pos)))))
      go true b q = record { is = ap (said_event d) q; inside = subst⁻¹ (InsideEvent d) q tt }
      go false true q = record { is = ap (said_event d) q; inside = subst⁻¹ (InsideEvent d) q tt }
      go false false q = made_by (type3 l n v) c r q h

  -- and for a reversible one
  pub rvlc-settled-says : (l n m s : ℕ) (c : Cursor) (r : Result (AcEvent × Cursor) TextureParseError) → r ≡ rvlc_settled l n m s c → c.bit_pos ≤ 8 * length d
      → SaysEvent d r (mapped (value_of t) (cond (eqb m 0) (no ReservedEscapeLevel) (ok (rvlc_escape l n m s) (bits_from d c.bit_pos))))
  unfolding last_number run_of level_of spelling_of
  rvlc-settled-says l n m s c r q h = go (eqb m 0) q
    where
      go : (a : Bool) → r ≡ cond a (Err ReservedEscapeLevel) (Ok (value_of t (rvlc_escape l n m s), c))
          → SaysEvent d r (mapped (value_of t) (cond a (no ReservedEscapeLevel) (ok (rvlc_escape l n m s) (bits_from d c.bit_pos))))
      go true q = record { is = ap (said_event d) q; inside = subst⁻¹ (InsideEvent d) q tt }
      go false q = made_by (rvlc_escape l n m s) c r q h

-- ---- the two forms of a contract say the same

-- what is left after a step is the end of what was there
abbrev Ends : {A : Type 0} → List ℕ → ℕ → Res A → Type 0
Ends {A} d at m = (a : A) (r : Bits) → m ≡ ok a r → (p : Bits) × (bits_from d at ≡ p ++ r)

ends-mapped : {A B : Type 0} (d : List ℕ) (at : ℕ) (f : A → B) (m : Res A) → Ends d at m → Ends d at (mapped f m)
ends-mapped d at f (ok a r) h b s q =
    let e : r ≡ s = cc in
    let x = h a r refl in
    (x.0, x.1 ∙ ap (λ (k : Bits). x.0 ++ k) e)
ends-mapped d at f (no e) h b s q = absurd (no_ok q)

module _ (d : List ℕ) (at : ℕ) (m : Res AcEvent) where
  abbrev answer : Bool → Result (AcEvent × Cursor) TextureParseError
  answer x = cond x (event_told d m) (Err OutOfRange)

  pub answered : in_data (length d) at ≡ true → (r : Result (AcEvent × Cursor) TextureParseError) → SaysEvent d r m → r ≡ answer (in_data (length d) at)
  answered h r s = told r s ∙ sym (ap answer h)
    where
      told : (r : Result (AcEvent × Cursor) TextureParseError) → SaysEvent d r m → r ≡ event_told d m
      told (Ok (v, c)) s = ap (λ (c : Cursor). Ok (v, c)) (place_is d c s.inside) ∙ ap (event_told d) s.is
      told (Err e) s = ap (event_told d) s.is

  answer-says : at ≤ 8 * length d → length d ≤ 1048576 → Ends d at m → (r : Result (AcEvent × Cursor) TextureParseError) → r ≡ answer (in_data (length d) at) → SaysEvent d r m
  answer-says h l ends r q = go m refl (q ∙ ap answer (in_data_by (length d) at l h))
    where
      go : (x : Res AcEvent) → m ≡ x → r ≡ event_told d x → SaysEvent d r x
      go (ok v s) p q =
          let x = ends v s p in
          subst⁻¹ (λ (r : Result (AcEvent × Cursor) TextureParseError). SaysEvent d r (ok v s)) q (record { is = ap (λ (s : Bits). ok v s) (rest-is d at h x.0 s x.1); inside = omega arith })
      go (no e) p q = subst⁻¹ (λ (r : Result (AcEvent × Cursor) TextureParseError). SaysEvent d r (no e)) q (record { is = refl; inside = tt })

module _ (d : List ℕ) (c : Cursor) (h : Readable d c) (r : Result (AcEvent × Cursor) TextureParseError) where
  abbrev b : Bits
  b = bits_from d c.bit_pos

  says : (t : TcoefTable) (m : Res Event) → Ends d c.bit_pos m
      → r ≡ cond (in_data (length d) c.bit_pos) (event_told d (mapped (value_of t) m)) (Err OutOfRange) → SaysEvent d r (mapped (value_of t) m)
  says t m ends q = answer-says d c.bit_pos (mapped (value_of t) m) h.0 h.1 (ends-mapped d c.bit_pos (value_of t) m ends) r q

  pub event-says : (rev : Bool) (t : TcoefTable) → r ≡ event_answer d c.bit_pos rev t → SaysEvent d r (mapped (value_of t) (event rev b))
  event-says rev t q = says t (event rev b) (λ e s p. (event_bits e, (event-sound rev b p).1)) q

  pub fixed-says : (t : TcoefTable) → r ≡ fixed_answer d c.bit_pos t → SaysEvent d r (mapped (value_of t) (fixed b))
  fixed-says t q =
      says t (fixed b)
      (λ e s p. let w = fixed-sound b p in (bin 1 w.last ▸ bin 6 w.run ▸ bin 1 1 ▸ bin 12 w.level ▸ bin 1 1, w.bits ∙ simp append_assoc)) q

  pub rvlc-escape-says : (t : TcoefTable) → r ≡ rvlc_escape_answer d c.bit_pos t → SaysEvent d r (mapped (value_of t) (rvlc_escaped b))
  rvlc-escape-says t q =
      says t (rvlc_escaped b)
      (λ e s p. let w = rvlc-escaped-sound b p in (bin 1 w.last ▸ bin 6 w.run ▸ bin 1 1 ▸ bin 11 w.magnitude ▸ bin 1 1 ▸ bin 4 0 ▸ bin 1 w.sign, w.bits ∙ simp append_assoc)) q

  pub sign-says : (t : TcoefTable) (k : RowForm) (i : ℕ) → RowIn k i → (es : List ℕ) → es ≡ columns k t → r ≡ sign_answer d c.bit_pos es k i
      → SaysEvent d r (mapped (value_of t) (sign k i b))
  unfolding sign
  sign-says t k i l es e q =
      subst (SaysEvent d r) (same (field 1 b))
      (answer-says d c.bit_pos (bind (field 1 b) (λ s r. ok (row_of es k i s) r)) h.0 h.1 (λ v s p. let x = bind_ok (field 1 b) _ p in
      let z : ok (row_of es k i x.got) x.rest ≡ ok v s = x.then in
      let f : x.rest ≡ s = cc in
      (bin 1 x.got, (field-sound 1 b x.first).1 ∙ ap (λ (u : Bits). bin 1 x.got ++ u) f)) r q)
    where
      same : (m : Res ℕ) → bind m (λ s r. ok (row_of es k i s) r) ≡ mapped (value_of t) (bind m (λ s r. ok (spelled k i s) r))
      same (ok s u) = ap (λ (v : AcEvent). ok v u) (row_of_is k t es e i s l)
      same (no x) = refl

-- ---- an answer whose first bit is refused

module _ (d : List ℕ) (at : ℕ) (g : Result (ℕ × Cursor) TextureParseError) (q : g ≡ field_answer d at 1) where
  abbrev first : Res ℕ
  first = field 1 (bits_from d at)

  asked : g ≡ cond (in_data (length d) at) (got_told d first) (Err OutOfRange)
  asked = q ∙ field_asked d at 1 (omega arith)

  module _ (t : TcoefTable) {e : TextureParseError} (f : g ≡ Err e) where
    pub fixed-refused : Err e ≡ fixed_answer d at t
    unfolding fixed
    fixed-refused = refused_first d (λ (x : Res Event). event_told d (mapped (value_of t) x)) Err (λ e. refl) (in_data (length d) at) first (λ l r. run_and_level l r) g asked f

    pub rvlc-escape-refused : Err e ≡ rvlc_escape_answer d at t
    unfolding rvlc_escaped
    rvlc-escape-refused = refused_first d (λ (x : Res Event). event_told d (mapped (value_of t) x)) Err (λ e. refl) (in_data (length d) at) first (λ l r. rvlc_run l r) g asked f
