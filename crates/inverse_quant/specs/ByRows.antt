-- Inside the crate: rows of levels by either method's rule at every place, and the values that are put last. Definitions only.
use Rattle.std.specs.Prelude.{Bool, cond, List, [], ℕ, ◌≤◌, eqb, ℤ, pos, nat_abs, ◌+ℤ◌, get_or}
use Rattle.numbers.specs.Grid.{build}
use Rattle.dequantise.specs.Methods.{intra_dc, limited_f, method1, method2}
use Rattle.dequantise.specs.declared.context.InverseQuantContext.{InverseQuantContext}

-- a context that passes 12's test, as the functions inside the crate take it
pub record ContextGood (ctx : InverseQuantContext) : Type 0 where
  pub positive : 1 ≤ ctx.quantiser_scale
  pub quantiser : ctx.quantiser_scale ≤ 31
  pub shallow : 4 ≤ ctx.bits_per_pixel
  pub depth : ctx.bits_per_pixel ≤ 12

abbrev pub is_zero : ℤ → Bool
is_zero z = eqb (nat_abs z) 0

-- a row that passes 13's test, and one whose values are within the limits of any depth
abbrev pub LevelsRow : List ℤ → Type 0
LevelsRow row = (u : ℕ) → nat_abs (get_or row u (pos 0)) ≤ 2048

abbrev pub ValuesRow : List ℤ → Type 0
ValuesRow row = (u : ℕ) → nat_abs (get_or row u (pos 0)) ≤ 32768

-- sums of seven such rows, and of eight
abbrev pub SumsRow : List ℤ → Type 0
SumsRow sums = (u : ℕ) → nat_abs (get_or sums u (pos 0)) ≤ 229376

abbrev pub SumsAll : List ℤ → Type 0
SumsAll sums = (u : ℕ) → nat_abs (get_or sums u (pos 0)) ≤ 262144

-- a row added to sums, value by value
abbrev pub with_row : List ℤ → List ℤ → List ℤ
with_row sums row = build 8 (λ (u : ℕ). get_or sums u (pos 0) +ℤ get_or row u (pos 0))

abbrev pub zeros : List ℤ
zeros = build 8 (λ (u : ℕ). pos 0)

-- a row by method 1 and by method 2, limited
unfoldable pub row_by1 : InverseQuantContext → List ℕ → List ℤ → List ℤ
row_by1 ctx w row =
    build 8 (λ (u : ℕ). limited_f ctx.bits_per_pixel (method1 ctx.macroblock_intra (get_or row u (pos 0)) (get_or w u 0) ctx.quantiser_scale))

unfoldable pub row_by2 : InverseQuantContext → List ℤ → List ℤ
row_by2 ctx row = build 8 (λ (u : ℕ). limited_f ctx.bits_per_pixel (method2 (get_or row u (pos 0)) ctx.quantiser_scale))

-- every row
abbrev pub rows_by1 : InverseQuantContext → List (List ℕ) → List (List ℤ) → List (List ℤ)
rows_by1 ctx w qf = build 8 (λ (v : ℕ). row_by1 ctx (get_or w v []) (get_or qf v []))

abbrev pub rows_by2 : InverseQuantContext → List (List ℤ) → List (List ℤ)
rows_by2 ctx qf = build 8 (λ (v : ℕ). row_by2 ctx (get_or qf v []))

-- the DC's own rule, in an intra block
abbrev pub first_value : InverseQuantContext → ℤ → ℤ → ℤ
first_value ctx level value =
    cond ctx.macroblock_intra (limited_f ctx.bits_per_pixel (intra_dc level ctx.component ctx.quantiser_scale ctx.short_video_header)) value
