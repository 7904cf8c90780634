-- The laws of this crate, each file over those above it.
pub mod UpToLaws
pub mod RowLaws
