-- What is said of an f64 over whole numbers.
pub mod Units
pub mod Series
pub mod Wholes
