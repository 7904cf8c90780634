-- `vaxembro::lent::is_there` meets its contract. Assumes nothing.
use Rattle.std.proofs.Common.{◌≡◌, Bool, ap, eqb, false, not, refl, sym, true, ℤ}
use borrow.Author.Tests.{eq-eqb, eqb-false, eqb-true, ne_eqb}
use lib.IntN.{nat_abs}
use mir.Syntax.{w32}
use mir.Val.{SFits, of_z}
use Rattle.numbers.proofs.Words.{nonzero_abs, zero-abs}
use Rattle.vaxembro.specs.Lent.{there}
use Rattle.vaxembro.proofs.lent.is_there.Goals as goal

is_zero : (z : ℤ) → SFits w32 z → eqb (of_z w32 z) 0 ≡ eqb (nat_abs z) 0
is_zero z f = go (eqb (of_z w32 z) 0) refl
  where
    go : (t : Bool) → eqb (of_z w32 z) 0 ≡ t → t ≡ eqb (nat_abs z) 0
    go true e = sym (eq-eqb _ 0 (zero-abs {w = w32} f (eqb-true _ 0 e)))
    go false e = sym (ne_eqb _ 0 (nonzero_abs w32 z (eqb-false _ 0 e)))

pub returns : goal.returns
unfolding there
returns c = ap not (is_zero c.args.z c.ranges.z)
