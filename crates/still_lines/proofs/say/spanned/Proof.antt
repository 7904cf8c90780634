-- `still_lines::say::spanned` meets its contract: a word and two numbers. Assumes nothing.
use mathlib.Core.List.{List, ◌++◌}
use mathlib.Core.Path.{◌≡◌, ap, ap₂, ◌∙◌}
use Prim.Native.Nat.{ℕ}
use native.Mathlib.Omega.{arith}
use borrow.Author.Rules.{rules}
use lib.IntN.{ℤ}
use mir.Syntax.{w32}
use mir.Val.{of_z, to_z}
use Rattle.still_lines.specs.Decimal.{integer_of}
use Rattle.still_lines.specs.Text.{said, space}
use Rattle.still_lines.proofs.say.spanned.Statement.{statement}
use Rattle.still_lines.proofs.say.spanned.Tie as tie

signed-low-requires : tie.Need-signed-low-requires
signed-low-requires c κs = search rules

signed-requires : tie.Need-signed-requires
signed-requires c κs = search rules

returns : tie.Need-returns
unfolding space
returns c =
    let m = c.before.before.before in
    let a = m.args in
    let g = m.struct_told-1.given in
    let h = c.struct_told-2-1.given in
    let low : to_z w32 (of_z w32 a.s.least) ≡ a.s.least = search rules in
    let high : to_z w32 (of_z w32 a.s.greatest) ≡ a.s.greatest = search rules in (
      c.signed.ensures.0
          ∙ ap₂ (λ (xs : List ℕ) (z : ℤ). xs ++ space ++ integer_of z)
          (m.signed-low.ensures.0 ∙ ap (λ (z : ℤ). said a.t ++ a.w.now ++ integer_of z) low) high,
      omega (arith, c.signed.ensures.1, m.signed-low.ensures.1),
    )

pub spanned_spec : {M : Type 1} → statement M
spanned_spec =
    tie.close (tie.spec signed-low-requires signed-requires returns)
