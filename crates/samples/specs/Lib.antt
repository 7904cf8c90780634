-- The samples of a macroblock, by block, row and column.
pub mod Samples
