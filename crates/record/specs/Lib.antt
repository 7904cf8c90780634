-- The record that is kept of a macroblock, and why one is refused.
pub mod Record
pub mod Refusals
