-- How the six 8x8 blocks of a macroblock lie in its 384 samples: luma 16 wide, blocks 0 and 1 above 2 and 3, then Cb, then Cr. Definitions only.
use Rattle.std.specs.Prelude.{cond, ◌&&◌, List, [], ◌++◌, ◌∷◌, ℕ, ◌+◌, ◌*◌, ◌/◌, ◌%◌, ◌-◌, eqb, leb, ltb, ℤ, pos, length, get_or, drop, Err, Ok, Result, ⊤}
use Rattle.numbers.specs.Grid.{build, cell}
use Rattle.numbers.specs.Outcome.{Outcome, checked, done, refused}
use Rattle.samples.specs.declared.SamplesError.{SamplesError}
use Rattle.samples.specs.declared.SamplesError.TheVariants.{OutOfRange}
use Rattle.samples.specs.declared.SamplesError.TheVariants.{TooShort}

-- 256 of luma, 64 of Cb and 64 of Cr
abbrev pub macroblock_samples : ℕ
macroblock_samples = 384

-- where row y, column x of block i stands among the 384
abbrev pub place_of : ℕ → ℕ → ℕ → ℕ
place_of i y x = cond (ltb i 4) ((8 * (i / 2) + y) * 16 + 8 * (i % 2) + x) (256 + 64 * (i - 4) + 8 * y + x)

-- and back: the block, row and column of sample k
abbrev pub block_of : ℕ → ℕ
block_of k = cond (ltb k 256) (k / 128 * 2 + k % 16 / 8) (k / 64)

abbrev pub row_of : ℕ → ℕ
row_of k = cond (ltb k 256) (k / 16 % 8) (k % 64 / 8)

abbrev pub col_of : ℕ → ℕ
col_of k = k % 8

-- the 384 samples of six blocks
unfoldable pub mb_samples : List (List (List ℤ)) → List ℤ
mb_samples blocks = build macroblock_samples (λ (k : ℕ). cell (get_or blocks (block_of k) []) (row_of k) (col_of k))

-- what samples s hold after a macroblock: its 384 from the front, or s where they are fewer
abbrev pub samples_after : List (List (List ℤ)) → List ℤ → List ℤ
samples_after blocks s = cond (leb macroblock_samples (length s)) (mb_samples blocks ++ drop macroblock_samples s) s

-- 14 where they are fewer
abbrev pub written_by : List ℤ → Result ⊤ SamplesError
written_by s = cond (leb macroblock_samples (length s)) (Ok tt) (Err TooShort)

abbrev pub written_outcome : Result ⊤ SamplesError → Outcome (Unit {0})
written_outcome (Ok tt) = done
written_outcome (Err OutOfRange) = refused 11 0
written_outcome (Err TooShort) = refused 14 0

abbrev pub written_due : List ℤ → Outcome (Unit {0})
written_due s = checked ((leb macroblock_samples (length s), 14) ∷ []) done

-- what a part of them holds after block b, its rows w apart: at k the cell at row k / w, column k % w, or what stood there
unfoldable pub written : List ℤ → ℕ → List (List ℤ) → List ℤ
written s w b = build (length s) (λ (k : ℕ). cond (ltb (k / w) 8 && ltb (k % w) 8) (cell b (k / w) (k % w)) (get_or s k (pos 0)))

-- ---- one block of six

-- what samples s hold after block i alone: its 64 among the first 384; or s where there is no such block or they are fewer
unfoldable pub block_after : ℕ → List (List ℤ) → List ℤ → List ℤ
block_after i b s =
    cond (ltb i 6 && leb macroblock_samples (length s))
    (build (length s) (λ (k : ℕ). cond (ltb k macroblock_samples && eqb (block_of k) i) (cell b (row_of k) (col_of k)) (get_or s k (pos 0))))
    s

-- 11, then 14
abbrev pub block_written : ℕ → List ℤ → Result ⊤ SamplesError
block_written i s = cond (ltb i 6) (cond (leb macroblock_samples (length s)) (Ok tt) (Err TooShort)) (Err OutOfRange)

abbrev pub block_outcome : Result ⊤ SamplesError → Outcome (Unit {0})
block_outcome (Ok tt) = done
block_outcome (Err OutOfRange) = refused 11 0
block_outcome (Err TooShort) = refused 14 0

abbrev pub block_due : ℕ → List ℤ → Outcome (Unit {0})
block_due i s = checked ((ltb i 6, 11) ∷ (leb macroblock_samples (length s), 14) ∷ []) done

-- ---- for laws of writing in turn

-- what samples s hold once the blocks below n are written, one after the other
unfoldable pub blocks_after : ℕ → List (List (List ℤ)) → List ℤ → List ℤ
blocks_after n blocks s = build (length s) (λ (k : ℕ). cond (ltb k macroblock_samples && ltb (block_of k) n) (cell (get_or blocks (block_of k) []) (row_of k) (col_of k)) (get_or s k (pos 0)))
