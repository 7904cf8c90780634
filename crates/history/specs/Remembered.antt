-- What the paper remembers of an accepted macroblock, its levels, dequantised DCs and quantiser, and what later blocks take of it (7.4.3). No store and no record of numbers. Definitions only.
use Rattle.std.specs.Prelude.{false, true, List, [], ◌++◌, ◌∷◌, ℕ, suc, zero, ◌+◌, ℤ, pos, get_or, replicate, Option, None, Some}
use Rattle.numbers.specs.Grid.{build, cell}
use Rattle.prediction.specs.Prediction.{default_dc}
use Rattle.prediction.specs.declared.predictor.BlockPredictors.{BlockPredictors}
use Rattle.codes.specs.Component.{component_at}
use Rattle.assembly.specs.Values.{levels_of, values_of}
use Rattle.assembly.specs.declared.context.MacroblockTextureContext.{MacroblockTextureContext}
use Rattle.places.specs.Places.{a_block, a_source, b_block, b_source, c_block, c_source}
use Rattle.neighbours.specs.Neighbours.{joined}
use Rattle.places.specs.declared.place.Source.{Source}
use Rattle.places.specs.declared.place.Source.TheVariants.{Above, AboveLeft, Left, Own}
use Rattle.record.specs.declared.record.Side.{Side}

-- of each block its dequantised DC and its levels QF; and the macroblock's quantiser
pub record Remembered : Type 0 where
  pub dcs : List ℤ
  pub levels : List (List (List ℤ))
  pub quantiser : ℕ

-- block b as a neighbour: its DC, the quantiser, the first row and the first column of its levels, each from 1 on
abbrev pub side_in : Remembered → ℕ → Side
side_in m b =
    record {
      has = true;
      dc = get_or m.dcs b (pos 0);
      qp = m.quantiser;
      row = build 7 (λ (k : ℕ). cell (get_or m.levels b []) 0 (k + 1));
      column = build 7 (λ (k : ℕ). cell (get_or m.levels b []) (k + 1) 0);
    }

-- a missing neighbour: DC 2 ^ (depth + 2), no AC values, the present quantiser
abbrev pub side_missing : ℕ → ℕ → Side
side_missing depth q = record { has = false; dc = default_dc depth; qp = q; row = replicate 7 (pos 0); column = replicate 7 (pos 0) }

abbrev pub side_at : ℕ → ℕ → Option Remembered → ℕ → Side
side_at depth q None b = side_missing depth q
side_at depth q (Some m) b = side_in m b

-- the three macroblocks around one, where they are not missing
pub record Neighbourhood : Type 0 where
  pub left : Option Remembered
  pub above_left : Option Remembered
  pub above : Option Remembered

-- the macroblock that a neighbour lies in, with the macroblock's own blocks so far
abbrev pub among : Neighbourhood → Remembered → Source → Option Remembered
among n own Own = Some own
among n own Left = n.left
among n own AboveLeft = n.above_left
among n own Above = n.above

-- what block i takes of A, B and C (Figure 7-5)
unfoldable pub takes : ℕ → ℕ → Neighbourhood → Remembered → ℕ → BlockPredictors
takes depth q n own i =
    joined (side_at depth q (among n own (a_source i)) (a_block i))
    (side_at depth q (among n own (b_source i)) (b_block i))
    (side_at depth q (among n own (c_source i)) (c_block i))

-- ---- six blocks one after the other, out of their rows of 64 places

module _ (x : MacroblockTextureContext) (w : List (List ℕ)) (n : Neighbourhood) (rows : List (List ℤ)) where
  -- block i, with the blocks before it
  abbrev pub levels_of_block : Remembered → ℕ → List (List ℤ)
  levels_of_block own i = levels_of (component_at i) x (takes x.bits_per_pixel x.quantiser_scale n own i) (get_or rows i [])

  abbrev pub values_of_block : Remembered → ℕ → List (List ℤ)
  values_of_block own i = values_of (component_at i) x w (levels_of_block own i)

  -- the blocks below i
  unfoldable pub blocks_below : ℕ → Remembered
  blocks_below zero = record { dcs = []; levels = []; quantiser = x.quantiser_scale }
  blocks_below (suc i) =
      record {
        dcs = (blocks_below i).dcs ++ (cell (values_of_block (blocks_below i) i) 0 0 ∷ []);
        levels = (blocks_below i).levels ++ (levels_of_block (blocks_below i) i ∷ []);
        quantiser = x.quantiser_scale;
      }

  abbrev pub remembered : Remembered
  remembered = blocks_below 6

  -- the dequantised values of the six
  unfoldable pub values_of_all : List (List (List ℤ))
  values_of_all = build 6 (λ (i : ℕ). values_of_block (blocks_below i) i)
