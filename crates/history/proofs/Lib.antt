-- The promise on a run of openings and calls, proved, and what follows of it.
pub mod Longer
pub mod Blocks
pub mod Places
pub mod Calls
pub mod Runs
pub mod Consequences
