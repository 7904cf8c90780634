-- The levels QF (7.4.3.2 to 7.4.3.4), and what they need of predictors, as functions over the integers.
pub mod Needed
pub mod Level
pub mod Short
