-- The laws of a reader's parts.
pub mod Held
