-- The laws of this crate.
pub mod ParityLaws
pub mod MismatchLaws
pub mod FlipLaws
