-- What is kept of an accepted macroblock: 91 numbers. Block b has its dequantised DC at 15 b, the levels QF of its first row at 15 b + 1 .. 15 b + 7 and of its first column at 15 b + 8 .. 15 b + 14; the quantiser is at 90. Definitions only.
use Rattle.std.specs.Prelude.{true, false, cond, List, ℕ, ◌+◌, ◌*◌, ◌-◌, min, eqb, leb, ltb, get_or, length, replicate, set, ℤ, pos, negsuc}
use Rattle.std.proofs.Math.Seq.{paste}
use Rattle.numbers.specs.Grid.{build, cell}
use Rattle.prediction.specs.Prediction.{default_dc}
use Rattle.record.specs.declared.record.Side.{Side}

-- the record that begins at a place of the store; a number past its end is 0
abbrev pub record_at : List ℤ → ℕ → List ℤ
record_at s at = build 91 (λ (k : ℕ). get_or s (at + k) (pos 0))

-- a stored quantiser; a negative number is read as 0, which no quantiser is
abbrev pub quantiser_of : ℤ → ℕ
quantiser_of (pos n) = n
quantiser_of (negsuc n) = 0

-- seven numbers of a record
abbrev pub seven_from : List ℤ → ℕ → List ℤ
seven_from r at = build 7 (λ (k : ℕ). get_or r (at + k) (pos 0))

-- block b of a record, as a neighbour
abbrev pub known_of : List ℤ → ℕ → Side
known_of r b =
    record {
      has = true;
      dc = get_or r (15 * b) (pos 0);
      qp = quantiser_of (get_or r 90 (pos 0));
      row = seven_from r (15 * b + 1);
      column = seven_from r (15 * b + 8);
    }

-- a missing neighbour: DC 2 ^ (depth + 2), no AC values, the present quantiser. A depth above 12, which 12 refuses, is taken as 12.
abbrev pub missing_of : ℕ → ℕ → Side
missing_of depth q = record { has = false; dc = default_dc (min depth 12); qp = q; row = replicate 7 (pos 0); column = replicate 7 (pos 0) }

-- the record before its first block: the present quantiser
unfoldable pub blank : ℕ → List ℤ
blank q = set (replicate 91 (pos 0)) 90 (pos q)

-- what is kept of a block: its dequantised DC, the first row of its levels from column 1 on, the first column from row 1 on
abbrev pub kept_of : ℤ → List (List ℤ) → ℕ → ℤ
kept_of dc qf u = cond (eqb u 0) dc (cond (leb u 7) (cell qf 0 u) (cell qf (u - 7) 0))

unfoldable pub fifteen : ℤ → List (List ℤ) → List ℤ
fifteen dc qf = build 15 (kept_of dc qf)

-- the record with block i put in
unfoldable pub with_block : List ℤ → ℕ → ℤ → List (List ℤ) → List ℤ
with_block own i dc qf = cond (ltb i 6) (paste own (15 * i) (fifteen dc qf) 15) own

-- the store with a record put in at a place; one that does not lie in the store changes nothing
unfoldable pub stored_at : List ℤ → ℕ → List ℤ → List ℤ
stored_at s at r = cond (leb (at + 91) (length s)) (paste s at r 91) s
