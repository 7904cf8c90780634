-- A header without stuffing stands in one window: codes by six bits each, fields between and behind them. Assumes nothing.
use mathlib.Core.Bool.{Bool, cond, false, true}
use mathlib.Core.List.{List, ◌++◌}
use mathlib.Core.Path.{◌≡◌, ap, ap₂, refl, subst⁻¹, sym, ◌∙◌}
use Prim.Native.Nat.{ℕ, ◌%◌, ◌*◌, ◌+◌, ◌-◌, ◌/◌, ◌<◌, ◌^◌, ◌≤◌}
use native.Mathlib.Nat.{mod-lt}
use native.Mathlib.Omega.{arith}
use lib.Dec.{ltb}
use lib.ListN.{drop, length, length-append, length-drop, length-replicate, replicate, take}
use lib.Seq.{take-add, take-append-le}
use borrow.Author.Tests.{ltb-false, ltb-true}
use Rattle.bits.proofs.AheadLaws.{field-bits, moved_shift, two_fields, window-begins, window-length}
use Rattle.bits.specs.Ahead.{ahead_of, window}
use Rattle.bits.specs.Bits.{Bits, bin, bits_from}
use Rattle.bits.specs.Cursor.{cursor_at}
use Rattle.codes.proofs.HeaderLaws.{ShortOf, short_row_lem}
use Rattle.codes.specs.Header.{cbpy_codes, cbpy_lens, cbpy_short, mcbpc_codes, mcbpc_lens, mcbpc_short}
use Rattle.codes.specs.Table.{code_bits}
use Rattle.fields.specs.Reader.{mapped}
use Rattle.sentences.specs.Compose.{GoodOpt}
use Rattle.headers.proofs.HeaderLaws.{header_reads}
use Rattle.headers.proofs.PartLaws.{change, no_change}
use Rattle.headers.specs.Header.{GoodHeader, Header, changes_at, header_bits, stuffing_bits}
use Rattle.headers.specs.HeaderReader.{read_header}
use Rattle.headers.specs.Inside.{SaysParts, flag_in, length_in, parts_in, parts_of}
use Rattle.std.specs.Prelude.{Ok, Option, None, Some}

module _ (d : List ℕ) (at m y : ℕ)
    (m_is : m ≡ mcbpc_short (ahead_of d at)) (m-there : m ≡ 0 → ⊥)
    (y-is : y ≡ cbpy_short (ahead_of d at * 2 ^ (m % 16 + 1) % 4294967296)) (y-there : y ≡ 0 → ⊥) where
  abbrev w : Bits
  w = window d at

  -- mcbpc begins the window
  first : ShortOf mcbpc_codes mcbpc_lens 8 w m
  unfolding mcbpc_short
  first = short_row_lem mcbpc_codes mcbpc_lens 8 w (window-length d at) m m_is m-there

  -- the window moved on past it and the flag
  abbrev skip : ℕ
  skip = m % 16 + 1

  abbrev moved : Bits
  moved = drop skip w ++ replicate skip false

  skip_few : skip ≤ 7
  skip_few = let k = first.short in omega arith

  moved_length : length moved ≡ 32
  moved_length = omega (arith, length-append (drop skip w) (replicate skip false), length-replicate skip false, length-drop skip w, window-length d at, skip_few)

  -- cbpy begins that
  second : ShortOf cbpy_codes cbpy_lens 16 moved y
  unfolding cbpy_short
  second = short_row_lem cbpy_codes cbpy_lens 16 moved moved_length y (y-is ∙ ap cbpy_short (moved_shift w skip (window-length d at) (omega (arith, skip_few)))) y-there

  pub few : m % 16 + y % 16 ≤ 12
  few = let k = first.short in let l = second.short in omega arith

  abbrev flag : ℕ
  flag = flag_in (ahead_of d at) m

  flag_bits : take 1 (drop (m % 16) w) ≡ bin 1 flag
  flag_bits = field-bits w (m % 16) 1 (31 - m % 16) (window-length d at ∙ (let e : 32 ≡ m % 16 + 1 + (31 - m % 16) = omega (arith, skip_few) in e))

  cbpy_bits : take (y % 16) (drop skip w) ≡ code_bits cbpy_codes cbpy_lens (y / 16)
  cbpy_bits = sym (take-append-le (y % 16) (drop skip w) (replicate skip false) (omega (arith, length-drop skip w, window-length d at, few))) ∙ second.front

  -- mcbpc, the flag, cbpy and n bits more
  all_bits : (n : ℕ) → take (m % 16 + (1 + (y % 16 + n))) w ≡ code_bits mcbpc_codes mcbpc_lens (m / 16) ++ (bin 1 flag ++ (code_bits cbpy_codes cbpy_lens (y / 16) ++ take n (drop (skip + y % 16) w)))
  all_bits n =
      take-add (m % 16) (1 + (y % 16 + n)) w
      ∙ ap₂ (λ (x z : Bits). x ++ z) first.front
      (two_fields w (m % 16) 1 (y % 16 + n)
      ∙ ap₂ (λ (x z : Bits). x ++ z) flag_bits (two_fields w skip (y % 16) n ∙ ap (λ (x : Bits). x ++ take n (drop (skip + y % 16) w)) cbpy_bits))

  -- ---- the header that it is

  abbrev header : Option ℕ → Header
  header o = ((0, m / 16), (flag, (y / 16, o)))

  good : (o : Option ℕ) → GoodOpt (changes_at (m / 16)) (λ (dquant : ℕ). dquant < 4) o → GoodHeader (header o)
  good o h = (first.below, (mod-lt _ (omega arith), (second.below, h)))

  there : (len : ℕ) (o : Option ℕ) → len ≤ 32 → take len w ≡ header_bits (header o) → GoodHeader (header o) → at + len ≤ 8 * length d
      → SaysParts d (Ok (parts_of (header o), cursor_at (at + len))) (mapped parts_of (read_header (bits_from d at)))
  there len o h e g l =
      let r : Bits = bits_from d (at + len) in
      let b : bits_from d at ≡ header_bits (header o) ++ r = window-begins d at len h l ∙ ap (λ (x : Bits). x ++ r) e in
      record { is = sym (ap (mapped parts_of) (ap read_header b ∙ header_reads.complete (header o) r g)); inside = l }

  -- with dquant or without

  abbrev under : ℕ
  under = 29 - m % 16 - y % 16

  abbrev dquant : ℕ
  dquant = ahead_of d at / 2 ^ under % 4

  abbrev long : Bool → ℕ
  long t = cond t (m % 16 + 1 + y % 16) (m % 16 + 1 + y % 16 + 2)

  pub header-there : at + length_in m y ≤ 8 * length d → SaysParts d (Ok (parts_in (ahead_of d at) m y, cursor_at (at + length_in m y))) (mapped parts_of (read_header (bits_from d at)))
  unfolding stuffing_bits
  header-there = go (ltb m 64) refl
    where
      go : (t : Bool) → ltb m 64 ≡ t → at + long t ≤ 8 * length d → SaysParts d (Ok (parts_of (header (cond t None (Some dquant))), cursor_at (at + long t))) (mapped parts_of (read_header (bits_from d at)))
      go true e l =
          let h : m / 16 < 4 = let k = ltb-true m 64 e in omega arith in
          let n : m % 16 + 1 + y % 16 ≡ m % 16 + (1 + (y % 16 + 0)) = omega arith in
          there (m % 16 + 1 + y % 16) None (omega (arith, few)) (ap (λ (k : ℕ). take k w) n ∙ all_bits 0)
          (good None (subst⁻¹ (λ (t : Bool). GoodOpt t (λ (q : ℕ). q < 4) None) (no_change (m / 16) h) tt)) l
      go false e l =
          let h : 4 ≤ m / 16 = let k = ltb-false m 64 e in omega arith in
          let n : m % 16 + 1 + y % 16 + 2 ≡ m % 16 + (1 + (y % 16 + 2)) = omega arith in
          let f : take 2 (drop (skip + y % 16) w) ≡ bin 2 dquant = field-bits w (skip + y % 16) 2 under (window-length d at ∙ (let z : 32 ≡ skip + y % 16 + 2 + under = omega (arith, few) in z)) in
          there (m % 16 + 1 + y % 16 + 2) (Some dquant) (omega (arith, few))
          (ap (λ (k : ℕ). take k w) n ∙ all_bits 2 ∙ ap (λ (x : Bits). code_bits mcbpc_codes mcbpc_lens (m / 16) ++ (bin 1 flag ++ (code_bits cbpy_codes cbpy_lens (y / 16) ++ x))) f)
          (good (Some dquant) (subst⁻¹ (λ (t : Bool). GoodOpt t (λ (q : ℕ). q < 4) (Some dquant)) (change (m / 16) h first.below) (mod-lt _ (omega arith)))) l
