-- Spellings in one number: an event adds its weight, and up to 384 come out as they went in. Assumes nothing.
use mathlib.Core.Bool.{false}
use mathlib.Core.Path.{◌≡◌, refl, sym, ◌∙◌}
use Prim.Native.Nat.{ℕ, ◌+◌, ◌*◌, ◌/◌, ◌%◌, ◌≤◌}
use native.Mathlib.Omega.{arith}
use Rattle.events.proofs.SpellingLaws.{same_counts, total_more, total_together}
use Rattle.events.specs.Event.{Event, GoodEvent, plain, rvlc, rvlc_escape, spelling_of, type1, type2, type3}
use Rattle.events.specs.Spellings.{no_spellings, one_more, together}
use Rattle.events.specs.declared.spelling.Spelling.{Spelling}
use Rattle.events.specs.declared.spelling.Spelling.TheVariants.{Plain, RvlcEscape, Type1, Type2, Type3}
use Rattle.events.specs.declared.spelling.Spellings.{Spellings}
use Rattle.window_reader.specs.Packed.{Packs, apart, packed, weight_of}

packed_more : (k : Spelling) (n : Spellings) → packed (one_more k n) ≡ packed n + weight_of k
packed_more Plain n = omega arith
packed_more Type1 n = omega arith
packed_more Type2 n = omega arith
packed_more Type3 n = omega arith
packed_more RvlcEscape n = omega arith

-- a plain event is no reversible escape
none_more : (e : Event) (n : Spellings) → GoodEvent false e → (one_more (spelling_of e) n).rvlc_escape ≡ n.rvlc_escape
unfolding GoodEvent spelling_of
none_more (plain i s) n g = refl
none_more (type1 i s) n g = refl
none_more (type2 i s) n g = refl
none_more (type3 l r v) n g = refl
none_more (rvlc i s) n g = absurd g
none_more (rvlc_escape l r m s) n g = absurd g

weight_le : (k : Spelling) → weight_of k ≤ 281474976710656
weight_le Plain = omega arith
weight_le Type1 = omega arith
weight_le Type2 = omega arith
weight_le Type3 = omega arith
weight_le RvlcEscape = omega arith

pub packs-none : (most : ℕ) → Packs 0 no_spellings most
packs-none most = record { is = refl; none = refl; few = omega arith }

pub packs-more : {w x : ℕ} {n : Spellings} {most : ℕ} (e : Event) → GoodEvent false e → x ≡ weight_of (spelling_of e) → Packs w n most → Packs (w + x) (one_more (spelling_of e) n) (most + 1)
packs-more {w} {x} {n} {most} e g q p =
    record {
      is = omega (arith, p.is, q, packed_more (spelling_of e) n);
      none = none_more e n g ∙ p.none;
      few = omega (arith, p.few, total_more (spelling_of e) n);
    }

pub packs_both : {w x : ℕ} {n m : Spellings} {a b : ℕ} → Packs w n a → Packs x m b → Packs (w + x) (together n m) (a + b)
packs_both {w} {x} {n} {m} p q =
    record { is = omega (arith, p.is, q.is); none = omega (arith, p.none, q.none); few = omega (arith, p.few, q.few, total_together n m) }

-- small enough to be added to
pub packs-le : {w : ℕ} {n : Spellings} {most : ℕ} → most ≤ 448 → Packs w n most → w ≤ 126100789566373888
packs-le {w} {n} h p = omega (arith, p.is, p.few)

pub event-le : (e : Event) {x : ℕ} → x ≡ weight_of (spelling_of e) → x ≤ 281474976710656
event-le e q = omega (arith, q, weight_le (spelling_of e))

-- ---- out of one number again

digits : (a b c d : ℕ) → a ≤ 384 → b ≤ 384 → c ≤ 384 → (w : ℕ) → w ≡ a + 65536 * b + 4294967296 * c + 281474976710656 * d
    → (w % 65536 ≡ a) × ((w / 65536 % 65536 ≡ b) × ((w / 4294967296 % 65536 ≡ c) × (w / 281474976710656 ≡ d)))
digits a b c d ha hb hc w q = (omega arith, (omega arith, (omega arith, omega arith)))

pub apart-is : {w : ℕ} {n : Spellings} → Packs w n 384 → apart w ≡ n
apart-is {w} {n} p =
    let f = p.few in
    let s = digits n.plain n.type1 n.type2 n.type3 (omega (arith, f)) (omega (arith, f)) (omega (arith, f)) w p.is in
    same_counts s.0 s.1.0 s.1.1.0 s.1.1.1 (sym p.none)
