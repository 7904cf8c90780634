-- Which block of which macroblock is A, B and C of a block.
pub mod Places
