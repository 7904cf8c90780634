-- The laws behind the functions, and for crates above: what an answer is, the number near to an f64, and how far the whole number is.
pub mod Literals
mod Orders
pub mod Sizes
pub mod Floors
mod TieRules
pub mod Rounds
pub mod Settled
pub mod Answers
