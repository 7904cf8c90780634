-- The laws of this crate.
pub mod PlaceLaws
pub mod ReadingLaws
pub mod SentenceLaws
pub mod RowLaws
pub mod OutcomeLaws
