-- What windows settle: the fields of a window are those of a DC part, a row or an event, where its bits are in the data. Assumes nothing.
use mathlib.Core.Bool.{Bool, false, true, cond}
use mathlib.Core.List.{List, ◌++◌, append_assoc}
use mathlib.Core.Path.{◌≡◌, refl, sym, ap, ap₂, subst, ◌∙◌}
use Prim.Native.Nat.{ℕ, ◌+◌, ◌-◌, ◌*◌, ◌/◌, ◌%◌, ◌^◌, ◌≤◌, ◌<◌}
use native.Mathlib.Nat.{mod-lt}
use native.Mathlib.Omega.{arith}
use lib.Dec.{eqb, leb}
use lib.IntN.{ℤ, nat_abs, neg_ℤ, pos, ◌-ℤ◌}
use lib.ListN.{drop, length, length-append, length-drop, length-replicate, replicate, take}
use lib.Pow.{pow_pos}
use lib.Seq.{drop_at, drop-drop, length-take-le, take-add, take-append-le}
use mir.Facts.{to_z-of_z}
use mir.Syntax.{w32}
use mir.Val.{of_z, to_z}
use borrow.Author.Tests.{leb-false, leb-true}
use Rattle.numbers.proofs.Integers.{diff_is, halves}
use Rattle.numbers.proofs.Magnitudes.{abs_neg}
use Rattle.numbers.proofs.Words.{fits_mag}
use Rattle.bits.proofs.AheadLaws.{field-bits, window-begins, window-length}
use Rattle.bits.specs.Ahead.{window}
use Rattle.bits.specs.Bits.{Bits, bin, bits_from, bits_of, val}
use Rattle.codes.proofs.FirstBitsLaws.{Symbol, intra_row, row_small, symbol, unpacked}
use Rattle.codes.specs.FirstBits.{long_rows, plain_in, short_rows}
use Rattle.codes.specs.Tcoef as T
use Rattle.events.specs.Event.{◌▸◌, signed12, signed_by, vlc_bits}
use Rattle.window_reader.specs.Told.{RowSettled, RowTold, moved}
use Rattle.window_reader.specs.declared.symbol.RowAt.{RowAt}

-- a position that `within` lets through is in the data
pub let_through : (n most : ℕ) → (cond (leb n most) n 0 ≡ 0 → ⊥) → (n ≤ most) × (cond (leb n most) n 0 ≡ n)
let_through n most h = go (leb n most) refl h
  where
    go : (t : Bool) → leb n most ≡ t → (cond t n 0 ≡ 0 → ⊥) → (n ≤ most) × (cond t n 0 ≡ n)
    go true e h = (leb-true n most e, refl)
    go false e h = absurd (h refl)

-- the bits `skip` after a position, where n bits more are in the data
pub begins-after : (d : List ℕ) (at skip n : ℕ) → skip + n ≤ 32 → at + (skip + n) ≤ 8 * length d
    → bits_from d (at + skip) ≡ take n (drop skip (window d at)) ++ bits_from d (at + (skip + n))
begins-after d at skip n h l =
    let w : Bits = window d at in
    let t-len : length (take skip w) ≡ skip = length-take-le skip w (omega (arith, window-length d at)) in
    sym (drop-drop skip at (bits_of d)) ∙ ap (drop skip) (window-begins d at (skip + n) h l)
    ∙ ap (λ (b : Bits). drop skip (b ++ bits_from d (at + (skip + n)))) (take-add skip n w)
    ∙ ap (drop skip) (append_assoc (take skip w) (take n (drop skip w)) (bits_from d (at + (skip + n))))
    ∙ drop_at (take skip w) (take n (drop skip w) ++ bits_from d (at + (skip + n))) skip t-len

module _ (d : List ℕ) (at skip : ℕ) (h : skip ≤ 19) where
  abbrev m : Bits
  m = moved d at skip

  moved_length : length m ≡ 32
  moved_length =
      length-append (drop skip (window d at)) (replicate skip false)
      ∙ (let e : length (drop skip (window d at)) + length (replicate skip false) ≡ 32 = omega (arith, length-drop skip (window d at), window-length d at, length-replicate skip false) in e)

  -- what is at the front of the moved window stands in the window
  moved_front : (n : ℕ) → n ≤ 13 → take n m ≡ take n (drop skip (window d at))
  moved_front n l = take-append-le n (drop skip (window d at)) (replicate skip false) (omega (arith, length-drop skip (window d at), window-length d at))

  -- a row and its sign
  pub row_told : (r : RowAt) (e len : ℕ) → e ≡ plain_in short_rows long_rows (val m) → (e ≡ 0 → ⊥) → len ≡ e % 16
      → r.next ≡ cond (leb (at + (skip + len + 1)) (8 * length d)) (at + (skip + len + 1)) 0
      → r.last ≡ e / 16 % 2 → r.run ≡ e / 32 % 64 → r.size ≡ e / 2048 → r.sign ≡ val m / 2 ^ (31 - len) % 2
      → RowSettled d at skip r
  row_told r e len is nz e₁ e₂ e₃ e₄ e₅ e₆ z =
      let s : Symbol m (plain_in short_rows long_rows (val m)) = symbol m moved_length (λ q. nz (is ∙ q)) in
      let row = intra_row s.i in
      let small = row_small s.i s.below in
      let u = unpacked row small in
      let says : e ≡ _ = is ∙ s.says in
      let len_is : len ≡ T.length_of row = e₁ ∙ ap (λ (x : ℕ). x % 16) says ∙ u.length-is in
      let thru = let_through (at + (skip + len + 1)) (8 * length d) (λ q. z (e₂ ∙ q)) in
      let next-is : r.next ≡ at + (skip + (len + 1)) = e₂ ∙ thru.1 ∙ (let k : at + (skip + len + 1) ≡ at + (skip + (len + 1)) = omega arith in k) in
      let len-lt : len ≤ 12 = let a = small.length-lt in omega arith in
      let under : ℕ = 31 - len in
      let sign-bits : take 1 (drop len m) ≡ bin 1 (val m / 2 ^ under % 2) = field-bits m len 1 under (omega (arith, moved_length)) in
      let both : take (len + 1) m ≡ vlc_bits s.i ++ bin 1 r.sign =
      take-add len 1 m ∙ ap₂ (λ (x y : Bits). x ++ y) (ap (λ (x : ℕ). take x m) len_is ∙ s.front) (sign-bits ∙ ap (bin 1) (sym e₆)) in
      record {
        row = s.i;
        below = s.below;
        bits =
            begins-after d at skip (len + 1) (omega arith) (let a = thru.0 in omega arith)
            ∙ ap (λ (x : Bits). x ++ bits_from d (at + (skip + (len + 1)))) (sym (moved_front (len + 1) (omega arith)) ∙ both)
            ∙ append_assoc (vlc_bits s.i) (bin 1 r.sign) (bits_from d (at + (skip + (len + 1))))
            ∙ ap (λ (x : ℕ). vlc_bits s.i ▸ bin 1 r.sign ▸ bits_from d x) (sym next-is);
        inside = let a = thru.0 in omega arith;
        sign_lt = subst (λ (x : ℕ). x < 2) (sym e₆) (mod-lt _ (pow_pos 1));
        last_is = e₃ ∙ ap (λ (x : ℕ). x / 16 % 2) says ∙ u.last_is;
        run_is = e₄ ∙ ap (λ (x : ℕ). x / 32 % 64) says ∙ u.run_is;
        size_is = e₅ ∙ ap (λ (x : ℕ). x / 2048) says ∙ u.level-is;
      }

-- ---- bounds of what a row says

pub record RowBounds (r : RowAt) : Type 0 where
  pub last-lt : r.last < 2
  pub run_lt : r.run < 21
  pub size-lt : r.size < 28

pub row_bounds : {d : List ℕ} {at skip : ℕ} {r : RowAt} → RowTold d at skip r → RowBounds r
row_bounds {d} {at} {skip} {r} t =
    let s = row_small t.row t.below in
    record {
      last-lt = subst (λ (n : ℕ). n < 2) (sym t.last_is) s.last-lt;
      run_lt = subst (λ (n : ℕ). n < 21) (sym t.run_is) s.run_lt;
      size-lt = subst (λ (n : ℕ). n < 28) (sym t.size_is) s.level-lt;
    }

-- a number with a sign is as large as the number, and a 12-bit field at most 2048
pub signed_mag : (s n : ℕ) → n ≤ 2048 → nat_abs (signed_by s n) ≤ 2048
signed_mag s n h = go (eqb s 1)
  where
    go : (t : Bool) → nat_abs (cond t (neg_ℤ (pos n)) (pos n)) ≤ 2048
    go true = omega (arith, abs_neg (pos n))
    go false = h

pub twelve_mag : (v : ℕ) → v < 4096 → nat_abs (signed12 v) ≤ 2048
twelve_mag v h = go (leb 2048 v) refl
  where
    go : (t : Bool) → leb 2048 v ≡ t → nat_abs (cond t (pos v -ℤ pos 4096) (pos v)) ≤ 2048
    go true e = let l = leb-true 2048 v e in let z = pos v -ℤ pos 4096 in omega (arith, halves z, diff_is (pos v) (pos 4096))
    go false e = let l = leb-false 2048 v e in omega arith

-- so its bits are it again
pub signed_back : (s n : ℕ) → n ≤ 2048 → {z : ℤ} → z ≡ signed_by s n → to_z w32 (of_z w32 z) ≡ signed_by s n
signed_back s n h {z} e = ap (λ (x : ℤ). to_z w32 (of_z w32 x)) e ∙ to_z-of_z {w = w32} (fits_mag 2048 tt (signed_by s n) (signed_mag s n h))

pub twelve_back : (v : ℕ) → v < 4096 → {z : ℤ} → z ≡ signed12 v → to_z w32 (of_z w32 z) ≡ signed12 v
twelve_back v h {z} e = ap (λ (x : ℤ). to_z w32 (of_z w32 x)) e ∙ to_z-of_z {w = w32} (fits_mag 2048 tt (signed12 v) (twelve_mag v h))
