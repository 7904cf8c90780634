-- What the contracts of this crate and of those above it say of numbers, lists, grids and answers.
pub mod Grid
pub mod Halves
pub mod Limit
pub mod Rounding
pub mod Sum
pub mod Every
pub mod Outcome
