-- How near the f64 transform and its whole numbers are to the exact one (Bounds); the same by even and odd halves, and the sums behind it.
pub mod Bounds
pub mod Both
pub mod EvenOddSums
mod Quarters
pub mod EvenOddBounds
