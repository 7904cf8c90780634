-- Six blocks one after the other, each with its own neighbours, among them the blocks before it: their levels and values, and the record that is kept of them. Definitions only.
use Rattle.std.specs.Prelude.{true, List, [], ℕ, suc, zero, ◌+◌, ℤ, get_or}
use Rattle.numbers.specs.Grid.{build, cell}
use Rattle.codes.specs.Component.{component_at}
use Rattle.assembly.specs.Values.{levels_of, values_of}
use Rattle.assembly.specs.declared.context.MacroblockTextureContext.{MacroblockTextureContext}
use Rattle.neighbours.specs.Neighbours.{Around, predictors}
use Rattle.record.specs.Record.{blank, with_block}
use Rattle.record.specs.declared.record.Side.{Side}

module _ (x : MacroblockTextureContext) (w : List (List ℕ)) (ar : Around) (rows : List (List ℤ)) where
  -- block i, with the record of the blocks before it
  abbrev pub levels_at : List ℤ → ℕ → List (List ℤ)
  levels_at own i = levels_of (component_at i) x (predictors x.bits_per_pixel x.quantiser_scale ar own i) (get_or rows i [])

  abbrev pub values_at : List ℤ → ℕ → List (List ℤ)
  values_at own i = values_of (component_at i) x w (levels_at own i)

  -- the record of the blocks below i: of each its dequantised DC and its levels
  unfoldable pub record_up_to : ℕ → List ℤ
  record_up_to zero = blank x.quantiser_scale
  record_up_to (suc i) = with_block (record_up_to i) i (cell (values_at (record_up_to i) i) 0 0) (levels_at (record_up_to i) i)

  abbrev pub record_of : List ℤ
  record_of = record_up_to 6

  -- the levels and the values of the six blocks
  abbrev pub levels_in_turn : ℕ → List (List ℤ)
  levels_in_turn i = levels_at (record_up_to i) i

  unfoldable pub values_in_turn : List (List (List ℤ))
  values_in_turn = build 6 (λ (i : ℕ). values_at (record_up_to i) i)

  -- what later blocks take of block i: its DC, the present quantiser, the first row and the first column of its levels
  abbrev pub kept_as : ℕ → Side
  kept_as i =
      record {
        has = true;
        dc = cell (get_or values_in_turn i []) 0 0;
        qp = x.quantiser_scale;
        row = build 7 (λ (k : ℕ). cell (levels_in_turn i) 0 (k + 1));
        column = build 7 (λ (k : ℕ). cell (levels_in_turn i) (k + 1) 0);
      }
