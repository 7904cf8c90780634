-- The reader of mcbpc reads stuffing and a row, is stopped where they break off, and needs no more fuel than bits. Assumes nothing.
use mathlib.Core.Bool.{Bool, cond, false, true}
use mathlib.Core.List.{append_assoc}
use mathlib.Core.Logic.{⊎_elim}
use mathlib.Core.Path.{◌≡◌, ap, refl, subst₂, sym, ◌∙◌}
use Prim.Native.Nat.{ℕ, suc, zero, ◌<◌, ◌≤◌}
use native.Mathlib.Nat.{le_refl}
use native.Mathlib.Omega.{arith}
use lib.Dec.{ltb}
use lib.ListN.{get_or, length, length-append}
use borrow.Author.Tests.{le-ltb, lt-ltb, ltb-false, ltb-true}
use Rattle.bits.proofs.BitLaws.{length-bin}
use Rattle.bits.specs.Bits.{Bits}
use Rattle.codes.proofs.PrefixFree.{mcbpc_prefix_free, mcbpc_rows}
use Rattle.codes.proofs.TableLaws.{sound-row}
use Rattle.codes.specs.Header.{mcbpc_codes, mcbpc_lens}
use Rattle.codes.specs.Table.{code_bits}
use Rattle.events.specs.Event.{◌▸◌}
use Rattle.fields.proofs.ReadLaws.{bind_by, bind_ok, code-complete, code-sound, cond-ok, no_ok}
use Rattle.fields.proofs.StepLaws.{code_empty}
use Rattle.fields.proofs.TakeLaws.{code-takes, stops_first, then_stops}
use Rattle.fields.specs.Inside.{invalid}
use Rattle.fields.specs.Reader.{Res, bind, code, mapped, no, ok}
use Rattle.fields.specs.Stopped.{Stops}
use Rattle.fields.specs.declared.code.CodeKind.TheVariants.{Header as HeaderCode}
use Rattle.fields.specs.declared.error.TextureParseError.{TextureParseError}
use Rattle.sentences.specs.ComposeReader.{CutSentence, Reads}
use Rattle.headers.specs.Header.{GoodMcbpc, Mcbpc, mcbpc_bits, row_of, stuffing_bits}
use Rattle.headers.specs.HeaderReader.{mcbpc_in, one_more, read_mcbpc}

pub mapped-ok : {A B : Type 0} (f : A → B) (m : Res A) {c : B} {r : Bits} → mapped f m ≡ ok c r → (a : A) × ((m ≡ ok a r) × (f a ≡ c))
mapped-ok f (ok a s) {c} {r} q = let e : s ≡ r = cc in (a, (ap (ok a) e, cc))
mapped-ok f (no e) q = absurd (no_ok q)

pub mapped-no : {A B : Type 0} (f : A → B) (m : Res A) {e : TextureParseError} → mapped f m ≡ no e → m ≡ no e
mapped-no f (ok a s) q = absurd (no_ok (sym q))
mapped-no f (no x) {e} q = let z : x ≡ e = cc in ap no z

pub mapped_stops : {A B : Type 0} (f : A → B) (m : Res A) → Stops m → Stops (mapped f m)
mapped_stops f (ok a s) h = h
mapped_stops f (no e) h = h

-- a code of mcbpc or stuffing
abbrev pub coded : Bits → Res ℕ
coded = code mcbpc_codes mcbpc_lens 9 9 (invalid HeaderCode)

abbrev bits_at : ℕ → Bits
bits_at = code_bits mcbpc_codes mcbpc_lens

enough : 9 ≤ length mcbpc_codes
enough = let n = mcbpc_rows.0 in omega arith

code-long : (i : ℕ) → i < 9 → 0 < length (bits_at i)
code-long i h = let n = length-bin (get_or mcbpc_lens i 0) (get_or mcbpc_codes i 0) in omega (arith, (sound-row 9 mcbpc_codes mcbpc_lens mcbpc_prefix_free i (let m = mcbpc_rows.0 in omega arith)).pos)

-- a code takes bits
pub code_less : (b : Bits) {i : ℕ} {r : Bits} → coded b ≡ ok i r → length r < length b
code_less b {i} {r} q =
    let s = code-sound mcbpc_codes mcbpc_lens 9 9 (invalid HeaderCode) b q in
    let n = ap length s.1 ∙ length-append (bits_at i) r in
    omega (arith, code-long i s.0)

-- what follows a code
abbrev after : ℕ → ℕ → Bits → Res Mcbpc
after n i r = cond (ltb i 8) (ok (0, i) r) (mapped one_more (mcbpc_in n r))

one-more-bits : (m : Mcbpc) (r : Bits) → mcbpc_bits (one_more m) ▸ r ≡ bits_at 8 ▸ (mcbpc_bits m ▸ r)
unfolding stuffing_bits
one-more-bits m r = ap (λ (x : Bits). x ▸ r) (append_assoc (bits_at 8) (stuffing_bits m.0) (bits_at m.1)) ∙ append_assoc (bits_at 8) (mcbpc_bits m) r

-- ---- the grammar is read

complete : (n i fuel : ℕ) (r : Bits) → i < 8 → length (mcbpc_bits (n, i) ▸ r) ≤ fuel → mcbpc_in fuel (mcbpc_bits (n, i) ▸ r) ≡ ok (n, i) r
unfolding mcbpc_in stuffing_bits
complete zero i zero r h l = absurd (omega (arith, length-append (bits_at i) r, code-long i (omega arith)))
complete zero i (suc fuel) r h l =
    bind_by _ (code-complete mcbpc_codes mcbpc_lens 9 9 (invalid HeaderCode) mcbpc_prefix_free enough i r (omega arith))
    ∙ ap (λ (t : Bool). cond t (ok (0, i) r) (mapped one_more (mcbpc_in fuel r))) (lt-ltb i 8 h)
complete (suc n) i zero r h l =
    absurd (omega (arith, ap length (one-more-bits (n, i) r), length-append (bits_at 8) (mcbpc_bits (n, i) ▸ r), code-long 8 (omega arith)))
complete (suc n) i (suc fuel) r h l =
    let s : Bits = mcbpc_bits (n, i) ▸ r in
    let e = one-more-bits (n, i) r in
    let k = ap length e ∙ length-append (bits_at 8) s in
    ap (mcbpc_in (suc fuel)) e
    ∙ bind_by _ (code-complete mcbpc_codes mcbpc_lens 9 9 (invalid HeaderCode) mcbpc_prefix_free enough 8 s (omega arith))
    ∙ ap (mapped one_more) (complete n i fuel r h (omega (arith, code-long 8 (omega arith))))

sound : (fuel : ℕ) (b : Bits) (m : Mcbpc) (r : Bits) → mcbpc_in fuel b ≡ ok m r → GoodMcbpc m × (b ≡ mcbpc_bits m ▸ r)
unfolding mcbpc_in stuffing_bits
sound zero b m r q = absurd (no_ok q)
sound (suc fuel) b m r q =
    let x = bind_ok (coded b) (after fuel) q in
    let f = code-sound mcbpc_codes mcbpc_lens 9 9 (invalid HeaderCode) b x.first in
    ⊎_elim (λ w. ends x.got x.rest f.1 w.0 w.1)
    (λ w. let y = mapped-ok one_more (mcbpc_in fuel x.rest) w.1 in goes x.got x.rest f w.0 y.0 (sound fuel x.rest y.0 r y.1.0) y.1.1)
    (cond-ok (ltb x.got 8) (ok (0, x.got) x.rest) (mapped one_more (mcbpc_in fuel x.rest)) x.then)
  where
    ends : (i : ℕ) (s : Bits) → b ≡ bits_at i ▸ s → ltb i 8 ≡ true → ◌≡◌ {A = Res Mcbpc} (ok (0, i) s) (ok m r) → GoodMcbpc m × (b ≡ mcbpc_bits m ▸ r)
    ends i s e t z =
        let e₁ : ◌≡◌ {A = Mcbpc} (0, i) m = cc in
        let e₂ : s ≡ r = cc in
        subst₂ (λ (y : Mcbpc) (v : Bits). GoodMcbpc y × (b ≡ mcbpc_bits y ▸ v)) e₁ e₂ (ltb-true i 8 t, e)

    goes : (i : ℕ) (s : Bits) → (i < 9) × (b ≡ bits_at i ▸ s) → ltb i 8 ≡ false → (y : Mcbpc) → GoodMcbpc y × (s ≡ mcbpc_bits y ▸ r) → one_more y ≡ m → GoodMcbpc m × (b ≡ mcbpc_bits m ▸ r)
    goes i s f t y g z =
        let k : i ≡ 8 = let n = ltb-false i 8 t in let l = f.0 in omega arith in
        let e : b ≡ mcbpc_bits (one_more y) ▸ r = f.1 ∙ (λ j. bits_at (k j) ▸ (g.1 j)) ∙ sym (one-more-bits y r) in
        subst₂ (λ (x : Mcbpc) (v : Bits). GoodMcbpc x × (b ≡ mcbpc_bits x ▸ v)) z refl (g.0, e)

stops : (n i fuel : ℕ) (b r : Bits) → i < 8 → 0 < length r → mcbpc_bits (n, i) ≡ b ▸ r → Stops (mcbpc_in fuel b)
unfolding mcbpc_in stuffing_bits
stops n i zero b r h l e = tt
stops zero i (suc fuel) b r h l e = stops_first (coded b) _ ((code-takes mcbpc_codes mcbpc_lens 9 9 (invalid HeaderCode) mcbpc_prefix_free enough i (omega arith)).stops b r l e)
stops (suc n) i (suc fuel) b r h l e =
    then_stops coded (after fuel) (code-takes mcbpc_codes mcbpc_lens 9 9 (invalid HeaderCode) mcbpc_prefix_free enough 8 (omega arith)) (mcbpc_bits (n, i)) b r l
    (sym (append_assoc (bits_at 8) (stuffing_bits n) (bits_at i)) ∙ e)
    (λ s k. mapped_stops one_more (mcbpc_in fuel s) (stops n i fuel s r h l k))

pub mcbpc_reads : Reads read_mcbpc mcbpc_bits GoodMcbpc
unfolding read_mcbpc
mcbpc_reads = record {
  sound = λ b m r q. sound (length b) b m r q;
  complete = λ m r h. complete m.0 m.1 (length (mcbpc_bits m ▸ r)) r h (le_refl _);
}

pub mcbpc_cut : CutSentence read_mcbpc mcbpc_bits GoodMcbpc
unfolding read_mcbpc
mcbpc_cut b m (h, (r, (l, e))) = stops m.0 m.1 (length b) b r h l e

-- ---- turn by turn, as a loop goes through it

-- no bits
none : (b : Bits) (n : ℕ) → length b ≡ 0 → mcbpc_in n b ≡ mcbpc_in 0 b
unfolding mcbpc_in
none b zero h = refl
none b (suc n) h = ap (λ (m : Res ℕ). bind m (after n)) (code_empty mcbpc_codes mcbpc_lens 9 9 (invalid HeaderCode) b h)

-- as much fuel as bits is enough
same_fuel : (n m : ℕ) (b : Bits) → length b ≤ n → length b ≤ m → mcbpc_in n b ≡ mcbpc_in m b
unfolding mcbpc_in
same_fuel zero m b h k = sym (none b m (omega arith))
same_fuel (suc n) zero b h k = none b (suc n) (omega arith)
same_fuel (suc n) (suc m) b h k = go (λ r x y. same_fuel n m r x y) (coded b) refl
  where
    go : ((r : Bits) → length r ≤ n → length r ≤ m → mcbpc_in n r ≡ mcbpc_in m r) → (c : Res ℕ) → coded b ≡ c → bind c (after n) ≡ bind c (after m)
    go f (ok i r) e = let l = code_less b e in ap (λ (x : Res Mcbpc). cond (ltb i 8) (ok (0, i) r) (mapped one_more x)) (f r (omega arith) (omega arith))
    go f (no x) e = refl

-- a turn
abbrev then : ℕ → Bits → Res Mcbpc
then i r = cond (ltb i 8) (ok (0, i) r) (mapped one_more (read_mcbpc r))

turn : (b : Bits) → read_mcbpc b ≡ bind (coded b) then
unfolding read_mcbpc mcbpc_in
turn b = same_fuel (length b) (suc (length b)) b (le_refl _) (omega arith) ∙ go (coded b) refl
  where
    go : (c : Res ℕ) → coded b ≡ c → bind c (after (length b)) ≡ bind c then
    go (ok i r) e = let l = code_less b e in ap (λ (x : Res Mcbpc). cond (ltb i 8) (ok (0, i) r) (mapped one_more x)) (same_fuel (length b) (length r) r (omega arith) (le_refl _))
    go (no x) e = refl

-- the row alone: refused, found, or stuffing and what follows it
abbrev pub row_read : Bits → Res ℕ
row_read b = mapped row_of (read_mcbpc b)

pub row-refused : (b : Bits) {e : TextureParseError} → coded b ≡ no e → row_read b ≡ no e
row-refused b q = ap (mapped row_of) (turn b ∙ ap (λ (m : Res ℕ). bind m then) q)

pub row-found : (b : Bits) {i : ℕ} {r : Bits} → coded b ≡ ok i r → i < 8 → row_read b ≡ ok i r
row-found b {i} {r} q h =
    ap (mapped row_of) (turn b ∙ bind_by _ q ∙ ap (λ (t : Bool). cond t (ok (0, i) r) (mapped one_more (read_mcbpc r))) (lt-ltb i 8 h))

pub row_later : (b : Bits) {i : ℕ} {r : Bits} → coded b ≡ ok i r → 8 ≤ i → row_read b ≡ row_read r
row_later b {i} {r} q h =
    ap (mapped row_of) (turn b ∙ bind_by _ q ∙ ap (λ (t : Bool). cond t (ok (0, i) r) (mapped one_more (read_mcbpc r))) (le-ltb i 8 h)) ∙ same (read_mcbpc r)
  where
    same : (m : Res Mcbpc) → mapped row_of (mapped one_more m) ≡ mapped row_of m
    same (ok x r) = refl
    same (no e) = refl
