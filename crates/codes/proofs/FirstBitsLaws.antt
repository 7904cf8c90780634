-- What the tables by first bits say: a number that is not 0 is that of a row whose code begins the bits. Assumes nothing.
use mathlib.Core.Bool.{Bool, true, false, cond, ◌&&◌}
use mathlib.Core.List.{List, [], ◌∷◌, map}
use mathlib.Core.Path.{◌≡◌, refl, sym, ap, ap₂, subst, subst₂, ◌∙◌}
use Prim.Native.Nat.{ℕ, zero, suc, ◌+◌, ◌*◌, ◌-◌, ◌/◌, ◌%◌, ◌^◌, ◌<◌, ◌≤◌}
use native.Mathlib.Nat.{le_of_suc-le-suc, not-suc-le-zero}
use native.Mathlib.Omega.{arith}
use lib.Dec.{T, leb, leb→le, ltb, ltb→lt}
use lib.ListN.{get_or-append, get_or-map, drop, get_or, length, length-drop, take, take-append-drop}
use lib.Pow.{high}
use lib.Seq.{length-take-le, take_at, take-take}
use borrow.Author.Tests.{le-leb, ltb-true}
use Rattle.bits.proofs.BitLaws.{length-bin, val-append, val-lt}
use Rattle.bits.specs.Bits.{Bits, bin, val}
use Rattle.numbers.proofs.Every.{every_at}
use Rattle.numbers.proofs.Fill.{get_or-build}
use Rattle.numbers.proofs.Tests.{and_left, and_right}
use Rattle.numbers.specs.Every.{every}
use Rattle.numbers.specs.Grid.{build}
use Rattle.codes.proofs.TableLaws.{hit-sound}
use Rattle.codes.specs.DcSize.{SizeRow, dc_codes, dc_lens, dc_sizes, size_code, size_length, size_of, size_chrominance, size_luminance, size_row, sizes_of}
use Rattle.codes.specs.FirstBits.{lmax_rows, long_rows, packed, packed_in, packed_size, plain_in, rmax_rows, short_rows, size_in, size_plain}
use Rattle.codes.specs.Table.{code_bits, hit}
use Rattle.codes.specs.Tcoef.{Row, code_of, last_of, length_of, level_of, lmax_by, lmax_of, or_zero, rmax_by, rmax_of, row, run_of, tcoef_intra, vlc_codes, vlc_lens}
use Rattle.codes.specs.declared.dc_size.DcComponent.{DcComponent}
use Rattle.codes.specs.declared.dc_size.DcComponent.TheVariants.{Luminance, Chrominance}

-- ---- Table B.16

-- row i says what the number e does, and its code begins the n bits k
pub record RowOf (rows : List Row) (n k e : ℕ) : Type 0 where
  pub i : ℕ
  pub below : i < length rows
  pub hits : T (hit k n (code_of (get_or rows i (row 0 0 0 0 0))) (length_of (get_or rows i (row 0 0 0 0 0))))
  pub says : e ≡ packed (get_or rows i (row 0 0 0 0 0))

pub packed-row : (rows : List Row) (n k : ℕ) → (packed_in rows n k ≡ 0 → ⊥) → RowOf rows n k (packed_in rows n k)
unfolding packed_in
packed-row [] n k h = absurd (h refl)
packed-row (r ∷ rs) n k h = go (hit k n (code_of r) (length_of r)) refl h (λ (g : packed_in rs n k ≡ 0 → ⊥). packed-row rs n k g)
  where
    go : (t : Bool) → hit k n (code_of r) (length_of r) ≡ t → (cond t (packed r) (packed_in rs n k) ≡ 0 → ⊥)
        → ((packed_in rs n k ≡ 0 → ⊥) → RowOf rs n k (packed_in rs n k))
        → RowOf (r ∷ rs) n k (cond t (packed r) (packed_in rs n k))
    go true e h next = record { i = 0; below = omega arith; hits = subst T (sym e) tt; says = refl }
    go false e h next = let x = next h in record { i = suc x.i; below = let b = x.below in omega arith; hits = x.hits; says = x.says }

-- a test that is computed over the whole list, carried to each element of it
every-below : {A : Type 0} (p : A → Bool) (d : A) (xs : List A) → T (every p xs) → (i : ℕ) → i < length xs → T (p (get_or xs i d))
every-below p d [] t i h = absurd (not-suc-le-zero h)
every-below p d (x ∷ xs) t zero h = and_left (p x) (every p xs) t
every-below p d (x ∷ xs) t (suc i) h = every-below p d xs (and_right (p x) (every p xs) t) i (le_of_suc-le-suc h)

-- the numbers of a row are small, its level is not 0, and LMAX and RMAX are found by them
pub record Small (r : Row) : Type 0 where
  pub length-lt : length_of r < 13
  pub last-lt : last_of r < 2
  pub run_lt : run_of r < 21
  pub level-pos : 0 < level_of r
  pub level-lt : level_of r < 28
  pub lmax_lt : 64 * last_of r + run_of r < 85
  pub rmax_lt : 32 * last_of r + level_of r < 41

abbrev small_row : Row → Bool
small_row r =
    ltb (length_of r) 13 && (ltb (last_of r) 2 && (ltb (run_of r) 21 && (ltb 0 (level_of r) && (ltb (level_of r) 28
    && (ltb (64 * last_of r + run_of r) 85 && ltb (32 * last_of r + level_of r) 41)))))

pub row_small : (i : ℕ) → i < 102 → Small (get_or tcoef_intra i (row 0 0 0 0 0))
unfolding tcoef_intra
row_small i h = of (get_or tcoef_intra i (row 0 0 0 0 0)) (every-below small_row (row 0 0 0 0 0) tcoef_intra tt i h)
  where
    of : (r : Row) → T (small_row r) → Small r
    of r t₀ =
        let t₁ = and_right (ltb (length_of r) 13) _ t₀ in
        let t₂ = and_right (ltb (last_of r) 2) _ t₁ in
        let t₃ = and_right (ltb (run_of r) 21) _ t₂ in
        let t₄ = and_right (ltb 0 (level_of r)) _ t₃ in
        let t₅ = and_right (ltb (level_of r) 28) _ t₄ in
        record {
          length-lt = ltb→lt (length_of r) 13 (and_left (ltb (length_of r) 13) _ t₀);
          last-lt = ltb→lt (last_of r) 2 (and_left (ltb (last_of r) 2) _ t₁);
          run_lt = ltb→lt (run_of r) 21 (and_left (ltb (run_of r) 21) _ t₂);
          level-pos = ltb→lt 0 (level_of r) (and_left (ltb 0 (level_of r)) _ t₃);
          level-lt = ltb→lt (level_of r) 28 (and_left (ltb (level_of r) 28) _ t₄);
          lmax_lt = ltb→lt (64 * last_of r + run_of r) 85 (and_left (ltb (64 * last_of r + run_of r) 85) _ t₅);
          rmax_lt = ltb→lt (32 * last_of r + level_of r) 41 (and_right (ltb (64 * last_of r + run_of r) 85) _ t₅);
        }

-- what is packed of a row is taken out again
pub record Unpacked (r : Row) (e : ℕ) : Type 0 where
  pub length-is : e % 16 ≡ length_of r
  pub last_is : e / 16 % 2 ≡ last_of r
  pub run_is : e / 32 % 64 ≡ run_of r
  pub level-is : e / 2048 ≡ level_of r

pub unpacked : (r : Row) → Small r → Unpacked r (packed r)
unpacked r s =
    let a = s.length-lt in
    let b = s.last-lt in
    let c = s.run_lt in
    record { length-is = omega arith; last_is = omega arith; run_is = omega arith; level-is = omega arith }

-- LMAX and RMAX of a row
pub lmax_by_lem : (r : Row) → Small r → get_or lmax_rows (64 * last_of r + run_of r) 0 ≡ lmax_by tcoef_intra r
unfolding lmax_rows
lmax_by_lem r s =
    let k : ℕ = 64 * last_of r + run_of r in
    let d : k / 64 ≡ last_of r = let c = s.run_lt in omega arith in
    let m : k % 64 ≡ run_of r = let c = s.run_lt in omega arith in
    get_or-build 85 (λ (k : ℕ). or_zero (lmax_of tcoef_intra (k / 64) (k % 64))) k 0 s.lmax_lt
    ∙ ap₂ (λ (x y : ℕ). or_zero (lmax_of tcoef_intra x y)) d m

pub rmax_by_lem : (r : Row) → Small r → get_or rmax_rows (32 * last_of r + level_of r) 0 ≡ rmax_by tcoef_intra r
unfolding rmax_rows
rmax_by_lem r s =
    let k : ℕ = 32 * last_of r + level_of r in
    let d : k / 32 ≡ last_of r = let c = s.level-lt in omega arith in
    let m : k % 32 ≡ level_of r = let c = s.level-lt in omega arith in
    get_or-build 41 (λ (k : ℕ). or_zero (rmax_of tcoef_intra (k / 32) (k % 32))) k 0 s.rmax_lt
    ∙ ap₂ (λ (x y : ℕ). or_zero (rmax_of tcoef_intra x y)) d m

-- LMAX is at most 27, RMAX at most 20
pub lmax_lt : (k : ℕ) → get_or lmax_rows k 0 < 28
unfolding lmax_rows build lmax_of tcoef_intra
lmax_lt k = ltb→lt (get_or lmax_rows k 0) 28 (every_at (λ (x : ℕ). ltb x 28) 0 lmax_rows tt tt k)

pub rmax_lt : (k : ℕ) → get_or rmax_rows k 0 < 21
unfolding rmax_rows build rmax_of tcoef_intra
rmax_lt k = ltb→lt (get_or rmax_rows k 0) 21 (every_at (λ (x : ℕ). ltb x 21) 0 rmax_rows tt tt k)

-- ---- a code at the front of a window

pub val_front : (b : Bits) (n under : ℕ) → length b ≡ n + under → val (take n b) ≡ val b / 2 ^ under
val_front b n under l =
    let d-len : length (drop n b) ≡ under = length-drop n b ∙ (let e : length b - n ≡ under = omega arith in e) in
    sym (high (val (take n b)) (length (drop n b)) (val-lt (drop n b)))
    ∙ ap (λ (x : ℕ). x / 2 ^ length (drop n b)) (sym (val-append (take n b) (drop n b)))
    ∙ ap₂ (λ (x : Bits) (y : ℕ). val x / 2 ^ y) (take-append-drop n b) d-len

-- a code that begins the first n bits begins them all
pub hit_front : (b : Bits) (n k c l : ℕ) → n ≤ length b → k ≡ val (take n b) → T (hit k n c l) → take l b ≡ bin l c
hit_front b n k c l h e t =
    let u : Bits = take n b in
    let u-len : length u ≡ n = length-take-le n b h in
    let le : l ≤ n = leb→le l n (and_left (leb l n) _ t) in
    let t' : T (hit (val u) (length u) c l) = subst₂ (λ (x y : ℕ). T (hit x y c l)) e (sym u-len) t in
    let s = hit-sound u c l t' in
    sym (take-take l n b le) ∙ ap (take l) s.1 ∙ take_at (bin l c) s.0 l (length-bin l c)

abbrev pub intra_row : ℕ → Row
intra_row i = get_or tcoef_intra i (row 0 0 0 0 0)

intra_rows : length tcoef_intra ≡ 102
unfolding tcoef_intra
intra_rows = refl

vlc_at : (i : ℕ) → i < 102 → code_bits vlc_codes vlc_lens i ≡ bin (length_of (intra_row i)) (code_of (intra_row i))
unfolding vlc_codes vlc_lens tcoef_intra
vlc_at i h =
    ap₂ bin (get_or-append (map length_of tcoef_intra) (7 ∷ []) 0 i h ∙ get_or-map length_of tcoef_intra i (row 0 0 0 0 0))
    (get_or-append (map code_of tcoef_intra) (3 ∷ []) 0 i h ∙ get_or-map code_of tcoef_intra i (row 0 0 0 0 0))

-- the code of row i stands at the front of the bits, and e is what is packed of it
pub record Symbol (b : Bits) (e : ℕ) : Type 0 where
  pub i : ℕ
  pub below : i < 102
  pub front : take (length_of (intra_row i)) b ≡ code_bits vlc_codes vlc_lens i
  pub says : e ≡ packed (intra_row i)

symbol_by : (b : Bits) (n k : ℕ) → n ≤ length b → k ≡ val (take n b) → (packed_in tcoef_intra n k ≡ 0 → ⊥) → Symbol b (packed_in tcoef_intra n k)
symbol_by b n k h e z =
    let x = packed-row tcoef_intra n k z in
    let below : x.i < 102 = omega (arith, intra_rows, x.below) in
    record {
      i = x.i;
      below = below;
      front = hit_front b n k (code_of (intra_row x.i)) (length_of (intra_row x.i)) h e x.hits ∙ sym (vlc_at x.i below);
      says = x.says;
    }

-- what the two tables have for a window of 32 bits
pub symbol : (b : Bits) → length b ≡ 32 → (plain_in short_rows long_rows (val b) ≡ 0 → ⊥) → Symbol b (plain_in short_rows long_rows (val b))
unfolding short_rows long_rows
symbol b l z = go (ltb (val b / 33554432) 16) refl z
  where
    small : val b < 4294967296
    small = subst (λ (n : ℕ). val b < 2 ^ n) l (val-lt b)

    go : (t : Bool) → ltb (val b / 33554432) 16 ≡ t → (cond t (get_or long_rows (val b / 1048576) 0) (get_or short_rows (val b / 33554432) 0) ≡ 0 → ⊥)
        → Symbol b (cond t (get_or long_rows (val b / 1048576) 0) (get_or short_rows (val b / 33554432) 0))
    go true e z =
        let k : ℕ = val b / 1048576 in
        let h : k < 512 = omega (arith, ltb-true (val b / 33554432) 16 e) in
        let is = get_or-build 512 (λ (k : ℕ). packed_in tcoef_intra 12 k) k 0 h in
        subst (Symbol b) (sym is) (symbol_by b 12 k (omega arith) (sym (val_front b 12 20 l)) (λ q. z (is ∙ q)))
    go false e z =
        let k : ℕ = val b / 33554432 in
        let h : k < 128 = omega (arith, small) in
        let is = get_or-build 128 (λ (k : ℕ). packed_in tcoef_intra 7 k) k 0 h in
        subst (Symbol b) (sym is) (symbol_by b 7 k (omega arith) (sym (val_front b 7 25 l)) (λ q. z (is ∙ q)))

-- ---- Tables B.13 and B.14

pub record SizeOf (rows : List SizeRow) (k e : ℕ) : Type 0 where
  pub i : ℕ
  pub below : i < length rows
  pub hits : T (hit k 6 (size_code (get_or rows i (size_row 0 0 0))) (size_length (get_or rows i (size_row 0 0 0))))
  pub says : e ≡ packed_size (get_or rows i (size_row 0 0 0))

pub size-row : (rows : List SizeRow) (k : ℕ) → (size_in rows k ≡ 0 → ⊥) → SizeOf rows k (size_in rows k)
unfolding size_in
size-row [] k h = absurd (h refl)
size-row (r ∷ rs) k h = go (hit k 6 (size_code r) (size_length r)) refl h (λ (g : size_in rs k ≡ 0 → ⊥). size-row rs k g)
  where
    go : (t : Bool) → hit k 6 (size_code r) (size_length r) ≡ t → (cond t (packed_size r) (size_in rs k) ≡ 0 → ⊥)
        → ((size_in rs k ≡ 0 → ⊥) → SizeOf rs k (size_in rs k))
        → SizeOf (r ∷ rs) k (cond t (packed_size r) (size_in rs k))
    go true e h next = record { i = 0; below = omega arith; hits = subst T (sym e) tt; says = refl }
    go false e h next = let x = next h in record { i = suc x.i; below = let b = x.below in omega arith; hits = x.hits; says = x.says }

-- a row whose code has at most six bits says a size of at most seven
abbrev short_size : SizeRow → Bool
short_size r = cond (leb (size_length r) 6) (leb (size_of r) 7) true

abbrev size_at : DcComponent → ℕ → SizeRow
size_at c i = get_or (sizes_of c) i (size_row 0 0 0)

size-rows : (c : DcComponent) → length (sizes_of c) ≡ 13
unfolding size_luminance size_chrominance
size-rows Luminance = refl
size-rows Chrominance = refl

size_small : (c : DcComponent) (i : ℕ) → size_length (size_at c i) ≤ 6 → size_of (size_at c i) ≤ 7
unfolding size_luminance size_chrominance
size_small c i h =
    leb→le (size_of (size_at c i)) 7
    (subst (λ (t : Bool). T (cond t (leb (size_of (size_at c i)) 7) true)) (le-leb (size_length (size_at c i)) 6 h) (every_at short_size (size_row 0 0 0) (sizes_of c) tt (all c) i))
  where
    all : (c : DcComponent) → T (every short_size (sizes_of c))
    all Luminance = tt
    all Chrominance = tt

-- the code of a size stands at the front of the bits, in six of them at most, and e is what is packed of its row
pub record SizeSymbol (c : DcComponent) (b : Bits) (e : ℕ) : Type 0 where
  pub i : ℕ
  pub below : i < 13
  pub short : get_or (dc_lens c) i 0 ≤ 6
  pub small : get_or (dc_sizes c) i 0 ≤ 7
  pub front : take (get_or (dc_lens c) i 0) b ≡ code_bits (dc_codes c) (dc_lens c) i
  pub says : e ≡ get_or (dc_lens c) i 0 + 16 * get_or (dc_sizes c) i 0

pub size_symbol : (c : DcComponent) (b : Bits) → length b ≡ 32 → (size_plain c (val b) ≡ 0 → ⊥) → SizeSymbol c b (size_plain c (val b))
unfolding dc_codes dc_lens dc_sizes
size_symbol c b l z =
    let k : ℕ = val b / 67108864 in
    let x = size-row (sizes_of c) k z in
    let r : SizeRow = size_at c x.i in
    let below : x.i < 13 = omega (arith, size-rows c, x.below) in
    let code : get_or (dc_codes c) x.i 0 ≡ size_code r = get_or-map size_code (sizes_of c) x.i (size_row 0 0 0) in
    let len : get_or (dc_lens c) x.i 0 ≡ size_length r = get_or-map size_length (sizes_of c) x.i (size_row 0 0 0) in
    let size : get_or (dc_sizes c) x.i 0 ≡ size_of r = get_or-map size_of (sizes_of c) x.i (size_row 0 0 0) in
    let le : size_length r ≤ 6 = leb→le (size_length r) 6 (and_left (leb (size_length r) 6) _ x.hits) in
    record {
      i = x.i;
      below = below;
      short = subst (λ (n : ℕ). n ≤ 6) (sym len) le;
      small = subst (λ (n : ℕ). n ≤ 7) (sym size) (size_small c x.i le);
      front =
          ap (λ (n : ℕ). take n b) len ∙ hit_front b 6 k (size_code r) (size_length r) (omega arith) (sym (val_front b 6 26 l)) x.hits
          ∙ ap₂ bin (sym len) (sym code);
      says = x.says ∙ ap₂ (λ (m n : ℕ). m + 16 * n) (sym len) (sym size);
    }
