-- Six blocks one after the other: nothing is refused, the record is sound, and it gives back what was worked out. Assumes nothing.
use mathlib.Core.Bool.{true}
use mathlib.Core.List.{List, []}
use mathlib.Core.Logic.{⊎_elim}
use mathlib.Core.Path.{◌≡◌, ap, refl, subst⁻¹, sym, ◌∙◌}
use Prim.Native.Nat.{ℕ, suc, zero, ◌+◌, ◌<◌, ◌≤◌}
use native.Mathlib.Nat.{not-suc-le-zero}
use native.Mathlib.Numerals.{add-one}
use native.Mathlib.Omega.{arith}
use lib.IntN.{ℤ, nat_abs, pos}
use lib.ListN.{get_or}
use Rattle.coefficients.proofs.BlockTests.{test_at}
use Rattle.coefficients.proofs.LevelLaws.{levels-fine}
use Rattle.ranges.proofs.RangeLaws.{abs-dc}
use Rattle.coefficients.specs.Level.{block_fine, predictors_fine}
use Rattle.idct.specs.Limits.{values_fine}
use Rattle.numbers.proofs.Fill.{get_or-build, lt-or-le}
use Rattle.numbers.specs.Grid.{build, cell}
use Rattle.ranges.specs.Range.{level_fine}
use Rattle.block.proofs.AnswerLaws.{values-fine, values_small}
use Rattle.assembly.proofs.ContextLaws.{depth-fine, quantiser-fine}
use Rattle.codes.specs.Component.{component_at}
use Rattle.assembly.specs.Values.{context_fine, samples_of}
use Rattle.assembly.specs.declared.context.MacroblockTextureContext.{MacroblockTextureContext}
use Rattle.macroblock.specs.Six.{samples_of_six}
use Rattle.record.proofs.RecordLaws.{known_other, known_own, quantiser_at}
use Rattle.neighbours.proofs.SoundLaws.{Sound, blank-sound, taken_fine, with_block_sound}
use Rattle.neighbours.specs.Neighbours.{Around, neighbours_fine, predictors}
use Rattle.record.specs.Record.{blank, known_of, quantiser_of, with_block}
use Rattle.record.specs.declared.record.Side.{Side}
use Rattle.picture.specs.Serial.{kept_as, levels_at, levels_in_turn, record_of, record_up_to, values_at, values_in_turn}

module _ (x : MacroblockTextureContext) (w : List (List ℕ)) (ar : Around) (rows : List (List ℤ)) where
  abbrev q : ℕ
  q = x.quantiser_scale

  abbrev up_to : ℕ → List ℤ
  up_to = record_up_to x w ar rows

  -- the values lie within the depth's limits
  pub turn-values : (i : ℕ) → i < 6 → get_or (values_in_turn x w ar rows) i [] ≡ values_at x w ar rows (up_to i) i
  unfolding values_in_turn
  turn-values i l = get_or-build 6 _ i [] l

  pub turn-samples : (i : ℕ) → i < 6 → samples_of x (values_at x w ar rows (up_to i) i) ≡ get_or (samples_of_six x (values_in_turn x w ar rows)) i []
  unfolding samples_of_six
  turn-samples i l = sym (get_or-build 6 _ i [] l ∙ ap (samples_of x) (turn-values i l))

  pub turn-fine : (i : ℕ) → i < 6 → values_fine x.bits_per_pixel (get_or (values_in_turn x w ar rows) i []) ≡ true
  turn-fine i l = subst⁻¹ (λ (f : List (List ℤ)). values_fine x.bits_per_pixel f ≡ true) (turn-values i l) (values-fine (component_at i) x w _)

  levels_in_lem : (own : List ℤ) (i : ℕ) → block_fine (levels_at x w ar rows own i) ≡ true
  levels_in_lem own i = levels-fine (component_at i) q x.ac_pred_flag x.alternate_vertical_scan (predictors x.bits_per_pixel q ar own i) (get_or rows i [])

  -- the record with one block more
  pub up_next : (i : ℕ) (own : List ℤ) → own ≡ up_to i → with_block own i (cell (values_at x w ar rows own i) 0 0) (levels_at x w ar rows own i) ≡ up_to (i + 1)
  unfolding record_up_to
  up_next i own e = ap (λ (o : List ℤ). with_block o i (cell (values_at x w ar rows o i) 0 0) (levels_at x w ar rows o i)) e ∙ sym (ap up_to (add-one i))

  module _ (h : context_fine x w ≡ true) where
    pub up-sound : (i : ℕ) → i ≤ 6 → Sound (up_to i)
    unfolding record_up_to
    up-sound zero l = blank-sound q (quantiser-fine x w h)
    up-sound (suc i) l =
        let z : ℤ = cell (values_at x w ar rows (up_to i) i) 0 0 in
        let m : nat_abs z ≤ 65536 = let k = values_small (component_at i) x w (levels_at x w ar rows (up_to i) i) (depth-fine x w h) in omega arith in
        with_block_sound (up_to i) i _ _ (up-sound i (omega arith)) l (abs-dc z m)
        (λ v u a b. test_at level_fine (pos 0) (levels_at x w ar rows (up_to i) i) refl (levels_in_lem (up_to i) i) v u)

    -- ---- a turn

    pub turn-predictors : neighbours_fine x.bits_per_pixel q ar (blank q) ≡ true → (i : ℕ) → i < 6 → predictors_fine (predictors x.bits_per_pixel q ar (up_to i) i) ≡ true
    turn-predictors n i l = taken_fine x.bits_per_pixel q ar (blank q) (up_to i) n (up-sound i (omega arith)) i l

    -- ---- what the record gives

    pub up-quantiser : (i : ℕ) → i ≤ 6 → get_or (up_to i) 90 (pos 0) ≡ pos q
    unfolding record_up_to blank
    up-quantiser zero l = refl
    up-quantiser (suc i) l = quantiser_at (up_to i) i _ _ (up-sound i (omega arith)).long l ∙ up-quantiser i (omega arith)

    abbrev side_at : ℕ → Side
    side_at i =
        record {
          has = true;
          dc = cell (values_at x w ar rows (up_to i) i) 0 0;
          qp = q;
          row = build 7 (λ (k : ℕ). cell (levels_in_turn x w ar rows i) 0 (k + 1));
          column = build 7 (λ (k : ℕ). cell (levels_in_turn x w ar rows i) (k + 1) 0);
        }

    known_up : (n : ℕ) → n ≤ 6 → (i : ℕ) → i < n → known_of (up_to n) i ≡ side_at i
    unfolding record_up_to
    known_up zero l i k = absurd (not-suc-le-zero k)
    known_up (suc n) l i k =
        ⊎_elim
        (λ (a : i < n). known_other (up_to n) n _ _ (up-sound n (omega arith)).long l i (omega arith) (λ e. omega arith) ∙ known_up n (omega arith) i a)
        (λ (a : n ≤ i).
        let e : i ≡ n = omega arith in
        ap (λ (j : ℕ). known_of (up_to (suc n)) j) e
        ∙ known_own (up_to n) n _ _ (up-sound n (omega arith)).long l
        ∙ (λ j. record {
          has = true;
          dc = cell (values_at x w ar rows (up_to n) n) 0 0;
          qp = quantiser_of (up-quantiser n (omega arith) j);
          row = build 7 (λ (k : ℕ). cell (levels_in_turn x w ar rows n) 0 (k + 1));
          column = build 7 (λ (k : ℕ). cell (levels_in_turn x w ar rows n) (k + 1) 0);
        })
        ∙ sym (ap side_at e))
        (lt-or-le i n)

    pub kept-is : (i : ℕ) → i < 6 → known_of (record_of x w ar rows) i ≡ kept_as x w ar rows i
    kept-is i l =
        known_up 6 (omega arith) i l
        ∙ ap (λ (f : List (List ℤ)). record {
          has = true;
          dc = cell f 0 0;
          qp = q;
          row = build 7 (λ (k : ℕ). cell (levels_in_turn x w ar rows i) 0 (k + 1));
          column = build 7 (λ (k : ℕ). cell (levels_in_turn x w ar rows i) (k + 1) 0);
        }) (sym (turn-values i l))
