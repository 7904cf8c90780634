-- The transform in f64 and exactly; EvenOdd serves inner functions of the crate above only.
pub mod Transform
pub mod Exact
pub mod EvenOdd
