-- The places of a block up to an end, which the fast scan takes.
pub mod UpTo
pub mod Rows
