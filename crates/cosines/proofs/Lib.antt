-- The laws behind the functions, and for crates above: each constant as a fraction.
mod Factors
pub mod Tables
