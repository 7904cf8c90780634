-- Mismatch control (7.4.4.5) over the integers.
pub mod Mismatch
