-- `still_lines::text::signed` meets its contract: a sign where there is one. Assumes nothing.
use Rattle.std.proofs.Common.{◌≡◌, ◌∙◌, [], ◌++◌, ◌∷◌, List, ap, ap₂, arith, false, pos, sym, true, ℕ, ℤ}
use lib.IntN.{nat_abs}
use lib.Signed.{lt_z}
use mir.Facts.{to_z-of_z}
use mir.Syntax.{w32}
use Rattle.still_lines.proofs.DecimalLaws.{integer_down, integer_up}
use Rattle.still_lines.specs.Decimal.{decimal_of}
use Rattle.still_lines.specs.Text.{said}
use Rattle.still_lines.proofs.text.signed.Goals as goal

pub returns-then-z-lt0 : goal.returns-then-z-lt0
returns-then-z-lt0 c =
    let a = c.args in
    let w = c.word-worded in
    let z = to_z-of_z {w = w32} c.ranges.z in
    let v = c.from-size.ensures ∙ c.unsigned_abs.ensures.value ∙ ap nat_abs z in
    let t : lt_z a.z (pos 0) ≡ true = ap (λ (y : ℤ). lt_z y (pos 0)) (sym z) ∙ c.if-z-lt0.true in (
      c.numbered.ensures.0
          ∙ ap₂ (λ (xs : List ℕ) (n : ℕ). xs ++ (45 ∷ []) ++ decimal_of n) w.ensures.0 v
          ∙ integer_down (said a.t ++ a.w.now) a.z t,
      omega (arith, c.numbered.ensures.1, w.ensures.1),
    )

pub returns-else-z-lt0 : goal.returns-else-z-lt0
returns-else-z-lt0 c =
    let a = c.args in
    let w = c.word-worded in
    let z = to_z-of_z {w = w32} c.ranges.z in
    let v = c.from-size.ensures ∙ c.unsigned_abs.ensures.value ∙ ap nat_abs z in
    let t : lt_z a.z (pos 0) ≡ false = ap (λ (y : ℤ). lt_z y (pos 0)) (sym z) ∙ c.if-z-lt0.false in (
      c.number.ensures.0 ∙ ap₂ (λ (xs : List ℕ) (n : ℕ). xs ++ decimal_of n) w.ensures.0 v ∙ integer_up (said a.t ++ a.w.now) a.z t,
      omega (arith, c.number.ensures.1, w.ensures.1),
    )
