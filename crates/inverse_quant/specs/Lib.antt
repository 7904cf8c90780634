-- From the levels QF of a block to dequantised values (7.4.4), over the integers.
pub mod Dequantised
pub mod Outcomes
pub mod Either
pub mod ByRows
