-- `coefficients::handed::some_value` meets its contract, one test a turn: what is told so far, with the tests that are left. Assumes nothing.
use mathlib.Core.Bool.{Bool, not, ◌&&◌}
use mathlib.Core.Path.{◌≡◌, refl, ap}
use Prim.Native.Nat.{◌-◌, ◌≤◌}
use native.Mathlib.Omega.{arith}
use lib.Dec.{eqb}
use lib.IntN.{ℤ, nat_abs, pos}
use lib.ListN.{drop, get_or, length}
use mir.Syntax.{w32}
use mir.Val.{of_z}
use borrow.Kind.Array.{e_s_int, good_length}
use Rattle.numbers.specs.Every.{every}
use Rattle.numbers.proofs.Words.{fits_ok}
use Rattle.numbers.proofs.EveryLaws.{test_done, test_more}
use Rattle.coefficients.proofs.HandedLaws.{zero_bits}
use Rattle.coefficients.proofs.handed.some_value.Statement.{statement}
use Rattle.coefficients.proofs.handed.some_value.Tie as tie

abbrev none : ℤ → Bool
none z = eqb (nat_abs z) 0

abbrev invariant-loop-k : tie.invariant-loop-k
invariant-loop-k values zeros₀ k₀ zeros k = (k ≤ 7) × (every none values ≡ (zeros && every none (drop k values)))

abbrev decreases-loop-k : tie.decreases-loop-k
decreases-loop-k values zeros₀ k₀ zeros k = 7 - k

seven : (s : tie.Start invariant-loop-k decreases-loop-k) → length s.args.values ≡ 7
seven s = good_length (e_s_int w32) 7 s.args.values _ s.well_formed.0

loop-k-init : tie.Need-loop-k-init invariant-loop-k decreases-loop-k
loop-k-init c = (omega arith, refl)

offset_bounds-values-k : tie.Need-offset_bounds-values-k invariant-loop-k decreases-loop-k
offset_bounds-values-k c = omega arith

bounds-values-k : tie.Need-bounds-values-k invariant-loop-k decreases-loop-k
bounds-values-k c = omega arith

overflow_step-k : tie.Need-overflow_step-k invariant-loop-k decreases-loop-k
overflow_step-k c = omega arith

loop-k-smaller : tie.Need-loop-k-smaller invariant-loop-k decreases-loop-k
loop-k-smaller c = omega arith

loop-k-preserved : tie.Need-loop-k-preserved invariant-loop-k decreases-loop-k
loop-k-preserved c =
    let a = c.before.before in
    let s = a.before in
    let z = get_or s.args.values a.loop-k.k (pos 0) in (
      omega arith,
      test_more none (pos 0) s.args.values (every none s.args.values) a.loop-k.k a.loop-k.zeros (eqb (of_z w32 z) 0) (omega (arith, seven s)) a.loop-k.invariant.1
          (zero_bits z (fits_ok w32 z c.zero-1.given)),
    )

returns : tie.Need-returns invariant-loop-k decreases-loop-k
returns c =
    let a = c.before in
    let s = a.before in
    ap not (test_done none (pos 0) s.args.values (every none s.args.values) a.loop-k.k a.loop-k.zeros (omega (arith, seven s)) a.loop-k.invariant.1)

pub some_value_spec : {M : Type 1} → statement M
some_value_spec =
    tie.close
    (tie.spec
    invariant-loop-k
    decreases-loop-k
    loop-k-init
    offset_bounds-values-k
    bounds-values-k
    overflow_step-k
    loop-k-smaller
    loop-k-preserved
    returns)
