-- The reader's steps at a position of the data, case by case, as the code goes through them. Assumes nothing.
use mathlib.Core.Bool.{Bool, cond}
use mathlib.Core.List.{List}
use mathlib.Core.Path.{◌≡◌, sym, ap, subst, ◌∙◌}
use Prim.Native.Nat.{ℕ, ◌+◌, ◌≤◌, ◌<◌}
use native.Mathlib.Omega.{arith}
use lib.Dec.{ltb}
use lib.ListN.{length, length-append, get_or, drop}
use lib.Seq.{drop-drop}
use borrow.Author.Tests.{eq-eqb, ne_eqb, lt-ltb, le-ltb}
use Rattle.bits.proofs.BitLaws.{length-bin}
use Rattle.bits.specs.Bits.{Bits, bits_of, bits_from}
use Rattle.codes.proofs.TableLaws.{row-sound}
use Rattle.codes.specs.Table.{row_at, code_bits}
use Rattle.fields.specs.Reader.{ok, no, code, no_code}
use Rattle.fields.specs.declared.error.TextureParseError.{TextureParseError}
use Rattle.fields.specs.declared.error.TextureParseError.TheVariants.{Truncated}

pub from_on : (d : List ℕ) (at n : ℕ) → drop n (bits_from d at) ≡ bits_from d (at + n)
from_on d at n = drop-drop n at (bits_of d)

module _ (cs ls : List ℕ) (width rows : ℕ) (err : ℕ → TextureParseError) (b : Bits) where
  pub code_empty : length b ≡ 0 → code cs ls width rows err b ≡ no Truncated
  unfolding code
  code_empty h =
      let k : ℕ = row_at cs ls width rows b in
      ap (λ (t : Bool). cond t (no Truncated) (cond (ltb k rows) (ok k (drop (get_or ls k 0) b)) (no (no_code cs ls width rows err b)))) (eq-eqb (length b) 0 h)

  pub code-found : 0 < length b → (k : ℕ) → k ≡ row_at cs ls width rows b → k < rows → code cs ls width rows err b ≡ ok k (drop (get_or ls k 0) b)
  unfolding code
  code-found h k e l =
      ap (λ (t : Bool). cond t (no Truncated) (cond (ltb (row_at cs ls width rows b) rows) (ok (row_at cs ls width rows b) (drop (get_or ls (row_at cs ls width rows b) 0) b)) (no (no_code cs ls width rows err b)))) (ne_eqb (length b) 0 (λ z. omega arith))
      ∙ ap (λ (x : ℕ). cond (ltb x rows) (ok x (drop (get_or ls x 0) b)) (no (no_code cs ls width rows err b))) (sym e)
      ∙ ap (λ (t : Bool). cond t (ok k (drop (get_or ls k 0) b)) (no (no_code cs ls width rows err b))) (lt-ltb k rows l)

  pub code_lost : 0 < length b → (k : ℕ) → k ≡ row_at cs ls width rows b → rows ≤ k → code cs ls width rows err b ≡ no (no_code cs ls width rows err b)
  unfolding code
  code_lost h k e l =
      ap (λ (t : Bool). cond t (no Truncated) (cond (ltb (row_at cs ls width rows b) rows) (ok (row_at cs ls width rows b) (drop (get_or ls (row_at cs ls width rows b) 0) b)) (no (no_code cs ls width rows err b)))) (ne_eqb (length b) 0 (λ z. omega arith))
      ∙ ap (λ (x : ℕ). cond (ltb x rows) (ok x (drop (get_or ls x 0) b)) (no (no_code cs ls width rows err b))) (sym e)
      ∙ ap (λ (t : Bool). cond t (ok k (drop (get_or ls k 0) b)) (no (no_code cs ls width rows err b))) (le-ltb k rows l)

  -- the code that is found lies in the bits
  pub row_fits : (k : ℕ) → k ≡ row_at cs ls width rows b → k < rows → get_or ls k 0 ≤ length b
  row_fits k e l =
      let i : ℕ = row_at cs ls width rows b in
      let s = row-sound width cs ls rows b (subst (λ (x : ℕ). x < rows) e l) in
      let len = ap length s.1 ∙ length-append (code_bits cs ls i) s.0 in
      let len' = length-bin (get_or ls i 0) (get_or cs i 0) in
      subst (λ (x : ℕ). get_or ls x 0 ≤ length b) (sym e) (omega arith)
