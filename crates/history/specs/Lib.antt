-- What a run of openings and calls is told, and what it should be told.
pub mod Remembered
pub mod Step
pub mod Ideal
pub mod History
