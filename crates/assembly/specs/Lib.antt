-- What the blocks of a macroblock share: the values that a context gives, the answers to its tests, the pattern and the default matrix.
pub mod Values
pub mod Answer
pub mod Outcomes
pub mod Pattern
pub mod Matrix
