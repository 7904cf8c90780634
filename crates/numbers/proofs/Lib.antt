-- The laws that hold of any number, list, grid or signed expression.
pub mod Tests
pub mod Integers
pub mod Magnitudes
pub mod Words
pub mod Expressions
pub mod Limits
pub mod Rounding
pub mod Lists
pub mod Fill
pub mod Every
pub mod EveryLaws
pub mod OutcomeLaws
pub mod Parts
