-- The laws of this crate, each file over those above it.
pub mod BlockLaws
pub mod ScanLaws
