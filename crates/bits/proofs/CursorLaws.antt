-- The tests of a cursor's methods, as facts. Assumes nothing.
use mathlib.Core.Bool.{Bool, cond, false, true}
use mathlib.Core.List.{List}
use mathlib.Core.Logic.{⊎_elim}
use mathlib.Core.Path.{◌≡◌, refl, subst, sym, ◌∙◌, ap}
use Prim.Native.Nat.{◌*◌, ◌≤◌, ℕ, ◌<◌, min}
use native.Mathlib.Omega.{arith}
use lib.Dec.{T, leb, leb→le}
use lib.ListN.{length, take}
use lib.Seq.{take_all}
use mir.Facts.{and_yes}
use borrow.Author.Tests.{le-leb}
use Rattle.bits.specs.Bits.{Bits, bits_from}
use Rattle.bits.specs.Cursor.{in_data, remaining}
use Rattle.bits.specs.declared.error.BitReaderError.{BitReaderError}
use Rattle.bits.specs.declared.error.BitReaderError.TheVariants.{OutOfRange}
use Rattle.numbers.proofs.Fill.{lt-or-le}
use Rattle.std.specs.Prelude.{Err, Ok, Result}

-- data that may be read
pub in_data_yes : (len at : ℕ) → in_data len at ≡ true → (len ≤ 1048576) × (at ≤ 8 * len)
in_data_yes len at e = let t = and_yes (leb len 1048576) (leb at (8 * len)) (subst T (sym e) tt) in (leb→le len 1048576 t.0, leb→le at (8 * len) t.1)

pub in_data_by : (len at : ℕ) → len ≤ 1048576 → at ≤ 8 * len → in_data len at ≡ true
in_data_by len at h l = simp (le-leb len 1048576 h, le-leb at (8 * len) l)

-- bits are counted exactly inside the data
module _ (d : List ℕ) (at : ℕ) where
  pub counted : (n : ℕ) (r : Result ℕ BitReaderError) → r ≡ remaining d at → r ≡ Ok n → in_data (length d) at ≡ true
  counted n r e f = go (in_data (length d) at) (sym f ∙ e)
    where
      go : (t : Bool) → Ok n ≡ cond t (Ok (length (bits_from d at))) (Err OutOfRange) → t ≡ true
      go true q = refl
      go false q = absurd (let z : ◌≡◌ {A = ℕ} 0 1 = cc in omega arith)

  pub not-counted : (n : BitReaderError) (r : Result ℕ BitReaderError) → r ≡ remaining d at → r ≡ Err n → in_data (length d) at ≡ false
  not-counted n r e f = go (in_data (length d) at) (sym f ∙ e)
    where
      go : (t : Bool) → Err n ≡ cond t (Ok (length (bits_from d at))) (Err OutOfRange) → t ≡ false
      go true q = absurd (let z : ◌≡◌ {A = ℕ} 0 1 = cc in omega arith)
      go false q = refl

-- as many bits as are left, and no more
pub take_least : (most : ℕ) (b : Bits) → take (min most (length b)) b ≡ take most b
take_least most b = ⊎_elim few many (lt-or-le most (length b))
  where
    few : most < length b → take (min most (length b)) b ≡ take most b
    few h = let e : min most (length b) ≡ most = omega arith in ap (λ (k : ℕ). take k b) e

    many : length b ≤ most → take (min most (length b)) b ≡ take most b
    many h = take_all (min most (length b)) b (omega arith) ∙ sym (take_all most b h)
