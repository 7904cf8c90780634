-- F' by a method's rule at every place, with the DC of an intra block written over it. Assumes nothing.
use mathlib.Core.Bool.{Bool, true, false, cond, ◌&&◌}
use mathlib.Core.List.{List, []}
use mathlib.Core.Path.{◌≡◌, refl, ap, ◌∙◌}
use Prim.Native.Nat.{ℕ, ◌<◌}
use native.Mathlib.Omega.{arith}
use lib.Dec.{eqb}
use lib.IntN.{ℤ}
use lib.ListN.{get_or, set}
use Rattle.numbers.specs.Grid.{block, cell, cell_n}
use Rattle.numbers.proofs.Fill.{block-eq, cell-block}
use Rattle.scan.proofs.BlockLaws.{block-set, square-block}
use Rattle.dequantise.specs.declared.context.InverseQuantContext.{InverseQuantContext}
use Rattle.dequantise.specs.Methods.{intra_dc, limited_f, method1, method2}
use Rattle.inverse_quant.specs.Dequantised.{f_prime1, f_prime2, value_of1, value_of2}

limit_picks : (d : ℕ) (t : Bool) (x y : ℤ) → cond t (limited_f d x) (limited_f d y) ≡ limited_f d (cond t x y)
limit_picks d true x y = refl
limit_picks d false x y = refl

-- cell (0, 0) by x, the others by y, all limited
dc_over : (d : ℕ) (x y : ℕ → ℕ → ℤ) (b : List (List ℤ)) → b ≡ block (λ (v u : ℕ). limited_f d (y v u))
    → set b 0 (set (get_or b 0 []) 0 (limited_f d (x 0 0))) ≡ block (λ (v u : ℕ). limited_f d (cond (eqb v 0 && eqb u 0) (x v u) (y v u)))
dc_over d x y b e =
    let f : ℕ → ℕ → ℤ = λ (v u : ℕ). limited_f d (x v u) in
    let g : ℕ → ℕ → ℤ = λ (v u : ℕ). limited_f d (y v u) in
    rw e
    (block-set (block g) (square-block g) f 0 0 (omega arith) (omega arith)
    ∙ block-eq (λ (v u : ℕ). cond (eqb v 0 && eqb u 0) (f v u) (cell (block g) v u)) (λ (v u : ℕ). limited_f d (cond (eqb v 0 && eqb u 0) (x v u) (y v u)))
    (λ (v u : ℕ) (p : v < 8) (q : u < 8).
    ap (λ (z : ℤ). cond (eqb v 0 && eqb u 0) (f v u) z) (cell-block g v u p q) ∙ limit_picks d (eqb v 0 && eqb u 0) (x v u) (y v u)))

module _ (ctx : InverseQuantContext) (qf : List (List ℤ)) where
  abbrev pub dc_rule : ℕ → ℕ → ℤ
  dc_rule v u = intra_dc (cell qf v u) ctx.component ctx.quantiser_scale ctx.short_video_header

  -- method 1 at every place
  module _ (w : List (List ℕ)) where
    abbrev pub rule1 : ℕ → ℕ → ℤ
    rule1 v u = method1 ctx.macroblock_intra (cell qf v u) (cell_n w v u) ctx.quantiser_scale

    abbrev pub all1 : ℕ → ℕ → ℤ
    all1 v u = limited_f ctx.bits_per_pixel (rule1 v u)

    pub without1 : ctx.macroblock_intra ≡ false → block all1 ≡ f_prime1 ctx w qf
    unfolding value_of1
    without1 h = rw h

    pub with1 : ctx.macroblock_intra ≡ true → (b : List (List ℤ)) → b ≡ block all1
        → set b 0 (set (get_or b 0 []) 0 (limited_f ctx.bits_per_pixel (dc_rule 0 0))) ≡ f_prime1 ctx w qf
    unfolding value_of1
    with1 h b e = dc_over ctx.bits_per_pixel dc_rule rule1 b e ∙ rw h

  -- method 2 at every place
  abbrev pub rule2 : ℕ → ℕ → ℤ
  rule2 v u = method2 (cell qf v u) ctx.quantiser_scale

  abbrev pub all2 : ℕ → ℕ → ℤ
  all2 v u = limited_f ctx.bits_per_pixel (rule2 v u)

  pub without2 : ctx.macroblock_intra ≡ false → block all2 ≡ f_prime2 ctx qf
  unfolding value_of2
  without2 h = rw h

  pub with2 : ctx.macroblock_intra ≡ true → (b : List (List ℤ)) → b ≡ block all2
      → set b 0 (set (get_or b 0 []) 0 (limited_f ctx.bits_per_pixel (dc_rule 0 0))) ≡ f_prime2 ctx qf
  unfolding value_of2
  with2 h b e = dc_over ctx.bits_per_pixel dc_rule rule2 b e ∙ rw h
