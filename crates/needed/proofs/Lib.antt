-- The laws of this crate.
pub mod StoredLaws
pub mod NeededLaws
