-- The laws, from one rounding to two passes of a transform.
pub mod Grains
pub mod Approx
pub mod Distances
pub mod Sizes
pub mod Rounded
pub mod Operations
pub mod Zeros
pub mod Order
pub mod Binary64
pub mod Shifted
pub mod Nearness
pub mod Passes
pub mod Constants
pub mod FromIntegers
pub mod Floors
pub mod Nearest
pub mod Halves
