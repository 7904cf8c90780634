-- DC parts that windows settle: the code of a size and its bits. Assumes nothing.
use mathlib.Core.Bool.{Bool, cond}
use mathlib.Core.List.{List, [], ◌++◌, append-nil}
use mathlib.Core.Path.{◌≡◌, sym, ap, ap₂, subst, ◌∙◌}
use Prim.Native.Nat.{ℕ, ◌+◌, ◌-◌, ◌*◌, ◌/◌, ◌%◌, ◌^◌, ◌≤◌, ◌<◌}
use native.Mathlib.Nat.{mod-lt}
use native.Mathlib.Omega.{arith}
use lib.Dec.{leb}
use lib.IntN.{ℤ}
use lib.ListN.{drop, get_or, length, take}
use lib.Pow.{pow_pos}
use lib.Seq.{take-add}
use mir.Facts.{to_z-of_z}
use mir.Syntax.{w32}
use mir.Val.{of_z, to_z}
use borrow.Author.Tests.{le-leb}
use Rattle.numbers.proofs.Words.{fits_mag}
use Rattle.bits.proofs.AheadLaws.{field-bits, window-begins, window-length}
use Rattle.bits.specs.Ahead.{ahead_of, window}
use Rattle.bits.specs.Bits.{Bits, bin, bits_from}
use Rattle.block_reader.proofs.PlaceLaws.{difference_small}
use Rattle.codes.proofs.FirstBitsLaws.{SizeSymbol, size_symbol}
use Rattle.codes.specs.DcSize.{dc_codes, dc_lens, dc_sizes}
use Rattle.codes.specs.FirstBits.{size_plain}
use Rattle.codes.specs.Table.{code_bits}
use Rattle.codes.specs.declared.dc_size.DcComponent.{DcComponent}
use Rattle.dc_parts.specs.Dc.{GoodDc, dc, dc_bits, difference_of, differential_of}
use Rattle.window_reader.proofs.SymbolLaws.{let_through}
use Rattle.window_reader.specs.Told.{DcSettled}
use Rattle.window_reader.specs.declared.symbol.DcAt.{DcAt}

-- what is packed of a size, taken out again
pub record SizeBounds (e : ℕ) : Type 0 where
  pub len_le : e % 16 ≤ 6
  pub size-le : e / 16 ≤ 7

module _ (d : List ℕ) (at : ℕ) (c : DcComponent) (e : ℕ) (is : e ≡ size_plain c (ahead_of d at)) (nz : e ≡ 0 → ⊥) where
  found : SizeSymbol c (window d at) (size_plain c (ahead_of d at))
  found = size_symbol c (window d at) (window-length d at) (λ q. nz (is ∙ q))

  len_is : e % 16 ≡ get_or (dc_lens c) found.i 0
  len_is = ap (λ (x : ℕ). x % 16) (is ∙ found.says) ∙ (let k = found.short in let m : (get_or (dc_lens c) found.i 0 + 16 * get_or (dc_sizes c) found.i 0) % 16 ≡ get_or (dc_lens c) found.i 0 = omega arith in m)

  size_is : e / 16 ≡ get_or (dc_sizes c) found.i 0
  size_is = ap (λ (x : ℕ). x / 16) (is ∙ found.says) ∙ (let k = found.short in let m : (get_or (dc_lens c) found.i 0 + 16 * get_or (dc_sizes c) found.i 0) / 16 ≡ get_or (dc_sizes c) found.i 0 = omega arith in m)

  pub size_bounds : SizeBounds e
  size_bounds = record { len_le = subst (λ (n : ℕ). n ≤ 6) (sym len_is) found.short; size-le = subst (λ (n : ℕ). n ≤ 7) (sym size_is) found.small }

  -- the code, and the bits of its size
  pub dc-told : (r : DcAt) → let a = ahead_of d at / 2 ^ (32 - e % 16 - e / 16) % 2 ^ (e / 16) in
      r.next ≡ cond (leb (at + (e % 16 + e / 16)) (8 * length d)) (at + (e % 16 + e / 16)) 0 → (x : ℤ) → x ≡ differential_of (e / 16) a → r.difference ≡ to_z w32 (of_z w32 x) → DcSettled d at c r
  unfolding GoodDc dc_bits difference_of
  dc-told r e₁ x e₂ e₃ z =
      let w : Bits = window d at in
      let len : ℕ = e % 16 in
      let size : ℕ = e / 16 in
      let b = size_bounds in
      let under : ℕ = 32 - len - size in
      let a : ℕ = ahead_of d at / 2 ^ under % 2 ^ size in
      let i : ℕ = found.i in
      let thru = let_through (at + (len + size)) (8 * length d) (λ q. z (e₁ ∙ q)) in
      let next-is : r.next ≡ at + (len + size) = e₁ ∙ thru.1 in
      let long : len + size + under ≡ 32 = let k = b.len_le in let m = b.size-le in omega arith in
      let front : take len w ≡ code_bits (dc_codes c) (dc_lens c) i = ap (λ (n : ℕ). take n w) len_is ∙ found.front in
      let more : take size (drop len w) ≡ bin size a = field-bits w len size under (window-length d at ∙ sym long) in
      let no-marker : cond (leb (get_or (dc_sizes c) i 0) 8) [] (bin 1 1) ≡ [] =
      ap (λ (t : Bool). cond t [] (bin 1 1)) (le-leb (get_or (dc_sizes c) i 0) 8 (let k = found.small in omega arith)) in
      let parts : take (len + size) w ≡ code_bits (dc_codes c) (dc_lens c) i ++ (bin (get_or (dc_sizes c) i 0) a ++ cond (leb (get_or (dc_sizes c) i 0) 8) [] (bin 1 1)) =
      take-add len size w ∙ ap₂ (λ (x y : Bits). x ++ y) front
      (more ∙ ap (λ (n : ℕ). bin n a) size_is ∙ sym (append-nil (bin (get_or (dc_sizes c) i 0) a)) ∙ ap (λ (x : Bits). bin (get_or (dc_sizes c) i 0) a ++ x) (sym no-marker)) in
      let good : GoodDc c (dc i a) = (found.below, subst (λ (n : ℕ). a < 2 ^ n) size_is (mod-lt _ (pow_pos size))) in
      let x-is : x ≡ difference_of c (dc i a) = e₂ ∙ ap (λ (n : ℕ). differential_of n a) size_is in
      record {
        part = dc i a;
        good = good;
        bits =
            window-begins d at (len + size) (let k = b.len_le in let m = b.size-le in omega arith) thru.0
            ∙ ap₂ (λ (x : Bits) (n : ℕ). x ++ bits_from d n) parts (sym next-is);
        inside = subst (λ (n : ℕ). n ≤ 8 * length d) (sym next-is) thru.0;
        says = e₃ ∙ ap (λ (y : ℤ). to_z w32 (of_z w32 y)) x-is ∙ to_z-of_z {w = w32} (fits_mag 4095 tt (difference_of c (dc i a)) (difference_small c (dc i a) good));
      }
