-- The tables of a header: what rows say, and that a row found by six bits begins the bits. Assumes nothing.
use mathlib.Core.Bool.{Bool, cond, false, true}
use mathlib.Core.List.{List}
use mathlib.Core.Path.{◌≡◌, ap, refl, sym, ◌∙◌}
use Prim.Native.Nat.{ℕ, ◌%◌, ◌*◌, ◌+◌, ◌/◌, ◌<◌, ◌≤◌}
use native.Mathlib.Omega.{arith}
use lib.Dec.{T, leb, leb→le, ltb}
use lib.ListN.{get_or, length, take}
use borrow.Author.Tests.{ltb-true}
use Rattle.bits.specs.Bits.{Bits, val}
use Rattle.codes.proofs.FirstBitsLaws.{hit_front, val_front}
use Rattle.codes.proofs.SearchLaws.{seek_hit}
use Rattle.codes.specs.Header.{cbpc_at, cbpy_at, cbpy_intra, mcbpc_intra, short_row, type_at}
use Rattle.codes.specs.Table.{code_bits, hit_at, row_in}
use Rattle.numbers.proofs.Fill.{get_or-build}
use Rattle.numbers.proofs.Tests.{and_left}
use Rattle.numbers.specs.Grid.{build}

-- ---- rows 0 to 3 are intra, 4 to 7 intra with a quantiser change, each with cbpc 0 to 3; row i of cbpy says i

pub type_is : (i : ℕ) → i < 8 → type_at i ≡ 3 + i / 4
unfolding type_at mcbpc_intra build
type_is i l = get_or-build 8 (λ (k : ℕ). 3 + k / 4) i 0 l

pub cbpc_is : (i : ℕ) → i < 8 → cbpc_at i ≡ i % 4
unfolding cbpc_at mcbpc_intra build
cbpc_is i l = get_or-build 8 (λ (k : ℕ). k % 4) i 0 l

pub cbpy_is : (i : ℕ) → i < 16 → cbpy_at i ≡ i
unfolding cbpy_at cbpy_intra build
cbpy_is i l = get_or-build 16 (λ (k : ℕ). k) i 0 l

-- ---- a row by six bits

pub record ShortOf (cs ls : List ℕ) (rows : ℕ) (b : Bits) (e : ℕ) : Type 0 where
  pub below : e / 16 < rows
  pub short : e % 16 ≤ 6
  pub length-is : e % 16 ≡ get_or ls (e / 16) 0
  pub front : take (e % 16) b ≡ code_bits cs ls (e / 16)

module _ (cs ls : List ℕ) (rows : ℕ) (b : Bits) (long : length b ≡ 32) where
  pub short_row_lem : (e : ℕ) → e ≡ short_row cs ls rows (val b / 67108864) → (e ≡ 0 → ⊥) → ShortOf cs ls rows b e
  short_row_lem e is nz = go (ltb i rows) refl (is ∙ refl)
    where
      k : ℕ
      k = val b / 67108864

      i : ℕ
      i = row_in cs ls rows k 6

      go : (t : Bool) → ltb i rows ≡ t → e ≡ cond t (get_or ls i 0 + 16 * i) 0 → ShortOf cs ls rows b e
      go true q f =
          let l = ltb-true i rows q in
          let h : T (hit_at cs ls k 6 i) = seek_hit (hit_at cs ls k 6) rows 0 (omega arith) in
          let s : get_or ls i 0 ≤ 6 = leb→le (get_or ls i 0) 6 (and_left (leb (get_or ls i 0) 6) _ h) in
          let m : e % 16 ≡ get_or ls i 0 = omega arith in
          let d : e / 16 ≡ i = omega arith in
          let n = hit_front b 6 k (get_or cs i 0) (get_or ls i 0) (omega arith) (sym (val_front b 6 26 long)) h in
          record {
            below = omega arith;
            short = omega arith;
            length-is = m ∙ ap (λ (j : ℕ). get_or ls j 0) (sym d);
            front = ap (λ (j : ℕ). take j b) m ∙ n ∙ ap (code_bits cs ls) (sym d);
          }
      go false q f = absurd (nz f)
