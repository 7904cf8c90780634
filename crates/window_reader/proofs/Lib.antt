-- The laws of this crate, each file over those above it.
pub mod PackedLaws
pub mod SymbolLaws
pub mod EventLaws
pub mod DcLaws
pub mod EndLaws
pub mod ListLaws
pub mod SixLaws
