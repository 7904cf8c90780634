-- The places that the bits of blocks give, and what is answered of a reading of them.
pub mod Reading
pub mod Rows
pub mod Outcomes
