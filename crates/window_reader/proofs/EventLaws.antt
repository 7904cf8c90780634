-- Events that windows settle: a row and its sign, alone or after an escape, and the fields of a type 3 escape. Assumes nothing.
use mathlib.Core.Bool.{Bool, cond}
use mathlib.Core.List.{List, ◌++◌, append_assoc}
use mathlib.Core.Path.{◌≡◌, sym, ap, ap₂, subst, ◌∙◌}
use Prim.Native.Nat.{ℕ, ◌+◌, ◌*◌, ◌/◌, ◌%◌, ◌≤◌}
use native.Mathlib.Nat.{mod-lt}
use native.Mathlib.Omega.{arith}
use lib.Dec.{eqb, leb}
use lib.IntN.{ℤ}
use lib.ListN.{get_or, length, length-append, take}
use lib.Pow.{pow_pos}
use lib.Seq.{take-add}
use Rattle.bits.proofs.AheadLaws.{field-bits, two_fields, window-begins, window-length}
use Rattle.bits.proofs.BitLaws.{length-bin, length-bits_from}
use Rattle.bits.specs.Ahead.{ahead_of, window}
use Rattle.bits.specs.Bits.{Bits, bin, bits_from}
use Rattle.codes.proofs.FirstBitsLaws.{intra_row, lmax_by_lem, rmax_by_lem, row_small}
use Rattle.codes.specs.FirstBits.{lmax_rows, rmax_rows}
use Rattle.codes.specs.Tcoef.{tcoef_intra, vlc_codes, vlc_lens}
use Rattle.codes.specs.Tcoef as T
use Rattle.events.specs.Event.{GoodEvent, ◌▸◌, escape, event_bits, last_number, level_of, plain, run_of, signed12, signed_by, spelling_of, type1, type2, type3, vlc_bits}
use Rattle.events.specs.declared.event.AcEvent.{AcEvent}
use Rattle.events.specs.declared.spelling.Spelling.{Spelling}
use Rattle.events.specs.declared.spelling.Spelling.TheVariants.{Plain, Type1, Type2, Type3}
use Rattle.window_reader.proofs.SymbolLaws.{let_through}
use Rattle.window_reader.specs.Told.{EventSettled, EventTold, RowTold}
use Rattle.window_reader.specs.declared.symbol.EventAt.{EventAt}
use Rattle.window_reader.specs.declared.symbol.RowAt.{RowAt}

event-is : {l l' : Bool} {r r' : ℕ} {z z' : ℤ} (k : Spelling) → l ≡ l' → r ≡ r' → z ≡ z'
    → ◌≡◌ {A = AcEvent} (record { last = l; run = r; level = z; spelling = k }) (record { last = l'; run = r'; level = z'; spelling = k })
event-is k e f g = λ j. record { last = e j; run = f j; level = g j; spelling = k }

module _ (d : List ℕ) (at : ℕ) where
  -- ---- a row and its sign

  pub plain-told : (skip : ℕ) (r : RowAt) → RowTold d at skip r → (v : EventAt)
      → v.next ≡ r.next → v.last ≡ eqb r.last 1 → v.run ≡ r.run → v.level ≡ signed_by r.sign r.size → v.spelled ≡ 1 → EventTold d (at + skip) v
  unfolding GoodEvent event_bits last_number run_of level_of spelling_of
  plain-told skip r t v e₁ e₂ e₃ e₄ e₅ =
      record {
        event = plain t.row r.sign;
        good = (t.below, t.sign_lt);
        bits =
            t.bits ∙ sym (append_assoc (vlc_bits t.row) (bin 1 r.sign) (bits_from d r.next))
            ∙ ap (λ (n : ℕ). (vlc_bits t.row ▸ bin 1 r.sign) ▸ bits_from d n) (sym e₁);
        inside = subst (λ (n : ℕ). n ≤ 8 * length d) (sym e₁) t.inside;
        says = event-is Plain (sym (e₂ ∙ ap (λ (n : ℕ). eqb n 1) t.last_is)) (sym (e₃ ∙ t.run_is)) (sym (e₄ ∙ ap (signed_by r.sign) t.size_is));
        weighs = e₅;
      }

  -- ---- what stands before it

  -- the bits of a row are in the data
  row_starts : (skip : ℕ) (r : RowAt) → RowTold d at skip r → at + skip ≤ 8 * length d
  row_starts skip r t =
      let n = length-bits_from d (at + skip) in
      let m = ap length t.bits ∙ length-append (vlc_bits t.row) (bin 1 r.sign ▸ bits_from d r.next) in
      let k = length-append (bin 1 r.sign) (bits_from d r.next) in
      omega (arith, length-bin 1 r.sign)

  escape_first : ahead_of d at / 33554432 ≡ 3 → take 7 (window d at) ≡ escape
  unfolding vlc_codes vlc_lens tcoef_intra
  escape_first e = field-bits (window d at) 0 7 25 (window-length d at) ∙ ap (λ (n : ℕ). bin 7 (n % 128)) e

  after-escape : (p x y q : Bits) (skip : ℕ) → bits_from d at ≡ (escape ▸ p) ▸ bits_from d (at + skip) → bits_from d (at + skip) ≡ x ▸ y ▸ q
      → bits_from d at ≡ (escape ▸ p ▸ x ▸ y) ▸ q
  after-escape p x y q skip e f =
      e ∙ ap (λ (b : Bits). (escape ▸ p) ▸ b) f
      ∙ append_assoc escape p (x ▸ y ▸ q)
      ∙ ap (λ (b : Bits). escape ▸ p ▸ b) (sym (append_assoc x y q))
      ∙ ap (λ (b : Bits). escape ▸ b) (sym (append_assoc p (x ▸ y) q))
      ∙ sym (append_assoc escape (p ▸ x ▸ y) q)

  pub type1-told : (r : RowAt) → RowTold d at 8 r → ahead_of d at / 33554432 ≡ 3 → ahead_of d at / 16777216 % 2 ≡ 0 → (v : EventAt)
      → v.next ≡ r.next → v.last ≡ eqb r.last 1 → v.run ≡ r.run → v.level ≡ signed_by r.sign (r.size + get_or lmax_rows (64 * r.last + r.run) 0) → v.spelled ≡ 65536 → EventTold d at v
  unfolding GoodEvent event_bits last_number run_of level_of spelling_of
  type1-told r t w₁ w₂ v e₁ e₂ e₃ e₄ e₅ =
      let row = intra_row t.row in
      let small = row_small t.row t.below in
      let front : bits_from d at ≡ (escape ▸ bin 1 0) ▸ bits_from d (at + 8) =
      window-begins d at 8 (omega arith) (row_starts 8 r t)
      ∙ ap (λ (b : Bits). b ++ bits_from d (at + 8))
      (take-add 7 1 (window d at) ∙ ap₂ (λ (x y : Bits). x ++ y) (escape_first w₁) (field-bits (window d at) 7 1 24 (window-length d at) ∙ ap (bin 1) w₂)) in
      let more : get_or lmax_rows (64 * r.last + r.run) 0 ≡ T.lmax_by tcoef_intra row =
      ap₂ (λ (x y : ℕ). get_or lmax_rows (64 * x + y) 0) t.last_is t.run_is ∙ lmax_by_lem row small in
      record {
        event = type1 t.row r.sign;
        good = (t.below, t.sign_lt);
        bits =
            after-escape (bin 1 0) (vlc_bits t.row) (bin 1 r.sign) (bits_from d r.next) 8 front t.bits
            ∙ ap (λ (n : ℕ). (escape ▸ bin 1 0 ▸ vlc_bits t.row ▸ bin 1 r.sign) ▸ bits_from d n) (sym e₁);
        inside = subst (λ (n : ℕ). n ≤ 8 * length d) (sym e₁) t.inside;
        says =
            event-is Type1 (sym (e₂ ∙ ap (λ (n : ℕ). eqb n 1) t.last_is)) (sym (e₃ ∙ t.run_is))
            (sym (e₄ ∙ ap₂ (λ (x y : ℕ). signed_by r.sign (x + y)) t.size_is more));
        weighs = e₅;
      }

  pub type2-told : (r : RowAt) → RowTold d at 9 r → ahead_of d at / 33554432 ≡ 3 → ahead_of d at / 8388608 % 4 ≡ 2 → (v : EventAt)
      → v.next ≡ r.next → v.last ≡ eqb r.last 1 → v.run ≡ r.run + get_or rmax_rows (32 * r.last + r.size) 0 + 1 → v.level ≡ signed_by r.sign r.size → v.spelled ≡ 4294967296 → EventTold d at v
  unfolding GoodEvent event_bits last_number run_of level_of spelling_of
  type2-told r t w₁ w₂ v e₁ e₂ e₃ e₄ e₅ =
      let row = intra_row t.row in
      let small = row_small t.row t.below in
      let front : bits_from d at ≡ (escape ▸ bin 2 2) ▸ bits_from d (at + 9) =
      window-begins d at 9 (omega arith) (row_starts 9 r t)
      ∙ ap (λ (b : Bits). b ++ bits_from d (at + 9))
      (take-add 7 2 (window d at) ∙ ap₂ (λ (x y : Bits). x ++ y) (escape_first w₁) (field-bits (window d at) 7 2 23 (window-length d at) ∙ ap (bin 2) w₂)) in
      let more : get_or rmax_rows (32 * r.last + r.size) 0 ≡ T.rmax_by tcoef_intra row =
      ap₂ (λ (x y : ℕ). get_or rmax_rows (32 * x + y) 0) t.last_is t.size_is ∙ rmax_by_lem row small in
      record {
        event = type2 t.row r.sign;
        good = (t.below, t.sign_lt);
        bits =
            after-escape (bin 2 2) (vlc_bits t.row) (bin 1 r.sign) (bits_from d r.next) 9 front t.bits
            ∙ ap (λ (n : ℕ). (escape ▸ bin 2 2 ▸ vlc_bits t.row ▸ bin 1 r.sign) ▸ bits_from d n) (sym e₁);
        inside = subst (λ (n : ℕ). n ≤ 8 * length d) (sym e₁) t.inside;
        says =
            event-is Type2 (sym (e₂ ∙ ap (λ (n : ℕ). eqb n 1) t.last_is))
            (sym (e₃ ∙ ap₂ (λ (x y : ℕ). x + y + 1) t.run_is more)) (sym (e₄ ∙ ap (signed_by r.sign) t.size_is));
        weighs = e₅;
      }

  -- ---- type 3

  -- the thirty bits of the window, field by field
  fields3 : ahead_of d at / 33554432 ≡ 3 → ahead_of d at / 8388608 % 4 ≡ 3 → ahead_of d at / 32768 % 2 ≡ 1 → ahead_of d at / 4 % 2 ≡ 1
      → take 30 (window d at) ≡ escape ▸ bin 2 3 ▸ bin 1 (ahead_of d at / 4194304 % 2) ▸ bin 6 (ahead_of d at / 65536 % 64) ▸ bin 1 1 ▸ bin 12 (ahead_of d at / 8 % 4096) ▸ bin 1 1
  fields3 w₁ w₂ w₃ w₄ =
      let w : Bits = window d at in
      let n = window-length d at in
      take-add 7 23 w
      ∙ ap₂ (λ (x y : Bits). x ++ y) (escape_first w₁)
      (two_fields w 7 2 21
      ∙ ap₂ (λ (x y : Bits). x ++ y) (field-bits w 7 2 23 n ∙ ap (bin 2) w₂)
      (two_fields w 9 1 20
      ∙ ap₂ (λ (x y : Bits). x ++ y) (field-bits w 9 1 22 n)
      (two_fields w 10 6 14
      ∙ ap₂ (λ (x y : Bits). x ++ y) (field-bits w 10 6 16 n)
      (two_fields w 16 1 13
      ∙ ap₂ (λ (x y : Bits). x ++ y) (field-bits w 16 1 15 n ∙ ap (bin 1) w₃)
      (two_fields w 17 12 1 ∙ ap₂ (λ (x y : Bits). x ++ y) (field-bits w 17 12 3 n) (field-bits w 29 1 2 n ∙ ap (bin 1) w₄))))))

  pub type3-told : ahead_of d at / 33554432 ≡ 3 → ahead_of d at / 8388608 % 4 ≡ 3 → ahead_of d at / 32768 % 2 ≡ 1 → ahead_of d at / 4 % 2 ≡ 1
      → (ahead_of d at / 8 % 4096 % 2048 ≡ 0 → ⊥) → (v : EventAt)
      → v.next ≡ cond (leb (at + 30) (8 * length d)) (at + 30) 0
      → v.last ≡ eqb (ahead_of d at / 4194304 % 2) 1 → v.run ≡ ahead_of d at / 65536 % 64 → v.level ≡ signed12 (ahead_of d at / 8 % 4096) → v.spelled ≡ 281474976710656 → EventSettled d at v
  unfolding GoodEvent event_bits last_number run_of level_of spelling_of
  type3-told w₁ w₂ w₃ w₄ w₅ v e₁ e₂ e₃ e₄ e₅ z =
      let thru = let_through (at + 30) (8 * length d) (λ q. z (e₁ ∙ q)) in
      let next-is : v.next ≡ at + 30 = e₁ ∙ thru.1 in
      let raw : ℕ = ahead_of d at / 8 % 4096 in
      record {
        event = type3 (ahead_of d at / 4194304 % 2) (ahead_of d at / 65536 % 64) raw;
        good = (mod-lt _ (pow_pos 1), mod-lt _ (pow_pos 6), mod-lt _ (pow_pos 12), λ (q : raw ≡ 0). w₅ (ap (λ (n : ℕ). n % 2048) q), λ (q : raw ≡ 2048). w₅ (ap (λ (n : ℕ). n % 2048) q));
        bits =
            window-begins d at 30 (omega arith) thru.0 ∙ ap (λ (b : Bits). b ++ bits_from d (at + 30)) (fields3 w₁ w₂ w₃ w₄)
            ∙ ap (λ (n : ℕ). (escape ▸ bin 2 3 ▸ bin 1 (ahead_of d at / 4194304 % 2) ▸ bin 6 (ahead_of d at / 65536 % 64) ▸ bin 1 1 ▸ bin 12 raw ▸ bin 1 1) ▸ bits_from d n) (sym next-is);
        inside = subst (λ (n : ℕ). n ≤ 8 * length d) (sym next-is) thru.0;
        says = event-is Type3 (sym e₂) (sym e₃) (sym e₄);
        weighs = e₅;
      }
