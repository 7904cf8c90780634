-- Bits that end inside a code: the test says just that, no code of a prefix-free table begins such bits, and a window tells it of all that remain. Assumes nothing.
use mathlib.Core.Bool.{Bool, ◌&&◌, false, true}
use mathlib.Core.List.{List, [], ◌++◌, append_assoc, append-nil}
use mathlib.Core.Logic.{⊎_elim, ◌↔◌}
use mathlib.Core.Path.{◌≡◌, ◌∙◌, ap, ap₂, refl, subst, sym}
use Prim.Native.Nat.{◌-◌, ◌/◌, ◌<◌, ◌^◌, ◌≤◌, ℕ, zero-le}
use native.Mathlib.Omega.{arith}
use lib.Dec.{T, eqb, eqb_refl, eqb→eq, leb, leb→le, le→leb, lt→ltb, ltb, ltb→lt}
use lib.ListN.{get_or, length, length-append, length-take, take}
use lib.Seq.{take_all}
use mir.Facts.{yes_and}
use borrow.Author.Tests.{lt-ltb}
use Rattle.bits.proofs.BitLaws.{bin-val, length-bin, val-bin, val-lt}
use Rattle.bits.specs.Bits.{Bits, bin, val}
use Rattle.codes.proofs.SearchLaws.{seek_hit, seek-some}
use Rattle.codes.proofs.TableLaws.{hit-complete, hit-sound, one-row, sound-row}
use Rattle.codes.specs.DcSize.{dc_codes, dc_lens, size_chrominance, size_luminance}
use Rattle.codes.specs.Header.{cbpy_codes, cbpy_intra, cbpy_lens, mcbpc_codes, mcbpc_intra, mcbpc_lens}
use Rattle.codes.specs.Rvlc.{rvlc_codes, rvlc_lens, rvlc_tcoef}
use Rattle.codes.specs.Table.{code_bits, cut, cut_at, cut_in, hit, prefix_free, seek}
use Rattle.codes.specs.Tcoef.{tcoef_intra, vlc_codes, vlc_lens}
use Rattle.codes.specs.declared.dc_size.DcComponent.{DcComponent}
use Rattle.codes.specs.declared.dc_size.DcComponent.TheVariants.{Chrominance, Luminance}
use Rattle.numbers.proofs.Every.{every_at}
use Rattle.numbers.specs.Every.{every}
use Rattle.numbers.proofs.Fill.{lt-or-le}
use Rattle.numbers.proofs.Tests.{F-false, T_true, and_left, and_right, true-T}

-- ---- one code

pub cut-is : (w n d m : ℕ) → n < m → cut w n d m ≡ eqb w (d / 2 ^ (m - n))
cut-is w n d m l = ap (λ (t : Bool). t && eqb w (d / 2 ^ (m - n))) (lt-ltb n m l)

-- a code of m bits that begins with the bits u and has more
abbrev Longer : Bits → ℕ → ℕ → Type 0
Longer u d m = (r : Bits) × ((0 < length r) × (bin m d ≡ u ++ r))

cut-sound : (u : Bits) (d m : ℕ) → d < 2 ^ m → T (cut (val u) (length u) d m) → Longer u d m
cut-sound u d m h t =
    let l : length u < m = ltb→lt (length u) m (and_left (ltb (length u) m) _ t) in
    let e : val u ≡ d / 2 ^ (m - length u) = eqb→eq _ _ (and_right (ltb (length u) m) _ t) in
    let s : val (bin m d) / 2 ^ (length (bin m d) - length u) ≡ val u = ap₂ (λ (x k : ℕ). x / 2 ^ (k - length u)) (val-bin m d h) (length-bin m d) ∙ sym e in
    let k : T (leb (length u) (length (bin m d))) = le→leb (length u) (length (bin m d)) (omega (arith, length-bin m d)) in
    let f = hit-sound (bin m d) (val u) (length u) (yes_and (leb (length u) (length (bin m d))) _ k (subst (λ (x : ℕ). T (eqb x (val u))) (sym s) (eqb_refl (val u)))) in
    let g : bin m d ≡ u ++ f.0 = f.1 ∙ ap (λ (x : Bits). x ++ f.0) (bin-val u) in
    let n = ap length g ∙ length-append u f.0 in
    (f.0, (omega (arith, length-bin m d), g))

cut-complete : (u : Bits) (d m : ℕ) → d < 2 ^ m → Longer u d m → T (cut (val u) (length u) d m)
cut-complete u d m h (r, (l, e)) =
    let n = ap length e ∙ length-append u r in
    let f = hit-complete (val u) (length u) r (val-lt u) in
    let g : T (hit (val (bin m d)) (length (bin m d)) (val u) (length u)) = subst (λ (x : Bits). T (hit (val x) (length x) (val u) (length u))) (ap (λ (x : Bits). x ++ r) (bin-val u) ∙ sym e) f in
    let s : val (bin m d) / 2 ^ (length (bin m d) - length u) ≡ val u = eqb→eq _ _ (and_right (leb (length u) (length (bin m d))) _ g) in
    let q : val u ≡ d / 2 ^ (m - length u) = sym s ∙ ap₂ (λ (x k : ℕ). x / 2 ^ (k - length u)) (val-bin m d h) (length-bin m d) in
    yes_and (ltb (length u) m) _ (lt→ltb (length u) m (omega (arith, length-bin m d))) (subst (λ (x : ℕ). T (eqb (val u) x)) q (eqb_refl (val u)))

-- ---- a table

module _ (cs ls : List ℕ) (rows : ℕ) where
  abbrev cut_by : ℕ → ℕ → ℕ → Bool
  cut_by w n i = cut w n (get_or cs i 0) (get_or ls i 0)

  cut-row : (w n : ℕ) → cut_in cs ls rows w n ≡ true → (i : ℕ) × ((i < rows) × T (cut_by w n i))
  cut-row w n t =
      let i = seek (cut_by w n) rows 0 in
      let l : i < rows = ltb→lt i rows (true-T (ltb i rows) t) in
      (i, (l, seek_hit (cut_by w n) rows 0 (omega arith)))

  cut-some : (w n i : ℕ) → i < rows → T (cut_by w n i) → cut_in cs ls rows w n ≡ true
  cut-some w n i l t = let s = seek-some (cut_by w n) rows 0 i zero-le (omega arith) t in lt-ltb (seek (cut_by w n) rows 0) rows (omega arith)

  -- bits that end inside a code are fewer than the longest code has
  cut_shorter : (w n m : ℕ) → ((i : ℕ) → i < rows → get_or ls i 0 ≤ m) → cut_in cs ls rows w n ≡ true → n < m
  cut_shorter w n m h t =
      let r = cut-row w n t in
      let l = ltb→lt n (get_or ls r.0 0) (and_left (ltb n (get_or ls r.0 0)) _ r.1.1) in
      omega (arith, h r.0 r.1.0)

  cut-none : (w n : ℕ) → ((i : ℕ) → i < rows → get_or ls i 0 ≤ n) → cut_in cs ls rows w n ≡ false
  cut-none w n h = F-false (cut_in cs ls rows w n) (λ t. let l = cut_shorter w n n h (T_true (cut_in cs ls rows w n) t) in omega arith)

module _ (width : ℕ) (cs ls : List ℕ) (ok : T (prefix_free width cs ls)) (rows : ℕ) (within : rows ≤ length cs) where
  -- the bits end inside a code exactly when some row's code begins with all of them and has more
  pub cut-exactly : (b : Bits) → (cut_at cs ls rows b ≡ true) ↔ ((i : ℕ) × ((i < rows) × ((r : Bits) × ((0 < length r) × (code_bits cs ls i ≡ b ++ r)))))
  cut-exactly b = (
    λ t. let r = cut-row cs ls rows (val b) (length b) t in (r.0, (r.1.0, cut-sound b (get_or cs r.0 0) (get_or ls r.0 0) (row r.0 r.1.0) r.1.1)),
    λ x. cut-some cs ls rows (val b) (length b) x.0 x.1.0 (cut-complete b (get_or cs x.0 0) (get_or ls x.0 0) (row x.0 x.1.0) x.1.1),
  )
    where
      row : (i : ℕ) → i < rows → get_or cs i 0 < 2 ^ get_or ls i 0
      row i l = (sound-row width cs ls ok i (omega arith)).code

  -- no code begins such bits, so it does not matter which is asked first
  pub cut-no-code : (b : Bits) → cut_at cs ls rows b ≡ true → (i : ℕ) → i < rows → (r : Bits) → b ≡ code_bits cs ls i ++ r → ⊥
  cut-no-code b t i l r e =
      let x = (cut-exactly b).0 t in
      let j = x.0 in
      let q = x.1.1.0 in
      let f : code_bits cs ls j ++ [] ≡ code_bits cs ls i ++ (r ++ q) = append-nil (code_bits cs ls j) ∙ x.1.1.1.1 ∙ ap (λ (y : Bits). y ++ q) e ∙ append_assoc (code_bits cs ls i) r q in
      let same : i ≡ j = one-row width cs ls ok rows within (code_bits cs ls j ++ []) i j l x.1.0 (r ++ q) [] f refl in
      let m = ap length f ∙ length-append (code_bits cs ls i) (r ++ q) in
      let k = length-append (code_bits cs ls j) [] in
      let n = length-append r q in
      let s = ap (λ (y : ℕ). length (code_bits cs ls y)) same in
      omega (arith, x.1.1.1.0)

  -- no code is longer than a window, so a window that ends inside one is all that remains
  pub cut-window : (b : Bits) → cut_in cs ls rows (val (take width b)) (length (take width b)) ≡ cut_at cs ls rows b
  cut-window b = ⊎_elim long (λ (h : length b ≤ width). ap (λ (u : Bits). cut_in cs ls rows (val u) (length u)) (take_all width b h)) (lt-or-le width (length b))
    where
      short : (n i : ℕ) → width ≤ n → i < rows → get_or ls i 0 ≤ n
      short n i h l = omega (arith, (sound-row width cs ls ok i (omega arith)).fits)

      long : width < length b → cut_in cs ls rows (val (take width b)) (length (take width b)) ≡ cut_at cs ls rows b
      long h =
          let n = length-take width b in
          cut-none cs ls rows (val (take width b)) (length (take width b)) (λ i l. short (length (take width b)) i (omega arith) l)
          ∙ sym (cut-none cs ls rows (val b) (length b) (λ i l. short (length b) i (omega arith) l))

-- ---- how many bits are left at most where they end inside a code of Annex B

-- the longest code of a component
abbrev pub longest_of : DcComponent → ℕ
longest_of Luminance = 11
longest_of Chrominance = 12

-- of a table whose codes have at most m bits, by one computed test
few : (cs ls : List ℕ) (rows m : ℕ) → T (every (λ (n : ℕ). leb n m) ls) → (b : Bits) → cut_at cs ls rows b ≡ true → length b < m
few cs ls rows m t b = cut_shorter cs ls rows (val b) (length b) m (λ i l. leb→le (get_or ls i 0) m (every_at (λ (n : ℕ). leb n m) 0 ls (le→leb 0 m zero-le) t i))

pub dc-few : (c : DcComponent) (b : Bits) → cut_at (dc_codes c) (dc_lens c) 13 b ≡ true → length b < longest_of c
unfolding dc_lens size_luminance size_chrominance
dc-few Luminance = few (dc_codes Luminance) (dc_lens Luminance) 13 11 tt
dc-few Chrominance = few (dc_codes Chrominance) (dc_lens Chrominance) 13 12 tt

-- with the escape or without it
pub vlc_few : (rows : ℕ) (b : Bits) → cut_at vlc_codes vlc_lens rows b ≡ true → length b < 12
unfolding vlc_lens tcoef_intra
vlc_few rows = few vlc_codes vlc_lens rows 12 tt

pub rvlc-few : (rows : ℕ) (b : Bits) → cut_at rvlc_codes rvlc_lens rows b ≡ true → length b < 15
unfolding rvlc_lens rvlc_tcoef
rvlc-few rows = few rvlc_codes rvlc_lens rows 15 tt

-- stuffing among the codes
pub mcbpc_few : (b : Bits) → cut_at mcbpc_codes mcbpc_lens 9 b ≡ true → length b < 9
unfolding mcbpc_lens mcbpc_intra
mcbpc_few = few mcbpc_codes mcbpc_lens 9 9 tt

pub cbpy_few : (b : Bits) → cut_at cbpy_codes cbpy_lens 16 b ≡ true → length b < 6
unfolding cbpy_lens cbpy_intra
cbpy_few = few cbpy_codes cbpy_lens 16 6 tt
