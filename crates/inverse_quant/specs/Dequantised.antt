-- Inverse quantisation of a block (7.4.4): F' by either method, F, and what is refused. Definitions only.
use Rattle.std.specs.Prelude.{Bool, cond, ◌&&◌, List, ℕ, eqb, ℤ, Result, ⊤}
use Rattle.numbers.specs.Every.{every}
use Rattle.numbers.specs.Grid.{block, cell, cell_n}
use Rattle.mismatch.specs.Mismatch.{mismatched}
use Rattle.coefficients.specs.Level.{block_fine}
use Rattle.prediction.specs.Refusal.{first_bad}
use Rattle.dequantise.specs.Methods.{context_fine, intra_dc, limited_f, method1, method2, non_zero}
use Rattle.dequantise.specs.declared.context.InverseQuantContext.{InverseQuantContext}
use Rattle.prediction.specs.declared.refusal.CoefficientError.{CoefficientError}

-- the place of an intra block's DC
abbrev pub is_dc : Bool → ℕ → ℕ → Bool
is_dc intra v u = intra && (eqb v 0 && eqb u 0)

-- a value of F' by method 1 and by method 2, limited
unfoldable pub value_of1 : InverseQuantContext → ℕ → ℕ → ℤ → ℕ → ℤ
value_of1 ctx v u qf w =
    limited_f ctx.bits_per_pixel
    (cond (is_dc ctx.macroblock_intra v u) (intra_dc qf ctx.component ctx.quantiser_scale ctx.short_video_header)
    (method1 ctx.macroblock_intra qf w ctx.quantiser_scale))

unfoldable pub value_of2 : InverseQuantContext → ℕ → ℕ → ℤ → ℤ
value_of2 ctx v u qf =
    limited_f ctx.bits_per_pixel
    (cond (is_dc ctx.macroblock_intra v u) (intra_dc qf ctx.component ctx.quantiser_scale ctx.short_video_header)
    (method2 qf ctx.quantiser_scale))

-- F' of a block
abbrev pub f_prime1 : InverseQuantContext → List (List ℕ) → List (List ℤ) → List (List ℤ)
f_prime1 ctx w qf = block (λ (v u : ℕ). value_of1 ctx v u (cell qf v u) (cell_n w v u))

abbrev pub f_prime2 : InverseQuantContext → List (List ℤ) → List (List ℤ)
f_prime2 ctx qf = block (λ (v u : ℕ). value_of2 ctx v u (cell qf v u))

-- F: method 1 with and without mismatch control, and method 2
unfoldable pub dequantised1 : Bool → InverseQuantContext → List (List ℕ) → List (List ℤ) → List (List ℤ)
dequantised1 control ctx w qf = cond control (mismatched (f_prime1 ctx w qf)) (f_prime1 ctx w qf)

unfoldable pub dequantised2 : InverseQuantContext → List (List ℤ) → List (List ℤ)
dequantised2 ctx qf = f_prime2 ctx qf

-- ---- what is refused

abbrev pub answer1 : InverseQuantContext → List (List ℕ) → List (List ℤ) → Result ⊤ CoefficientError
answer1 ctx w qf = first_bad (context_fine ctx && every (every non_zero) w) (block_fine qf)

abbrev pub answer2 : InverseQuantContext → List (List ℤ) → Result ⊤ CoefficientError
answer2 ctx qf = first_bad (context_fine ctx) (block_fine qf)
