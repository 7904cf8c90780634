-- The laws of this crate.
pub mod TestLaws
pub mod ContextLaws
pub mod StateLaws
pub mod OutcomeLaws
pub mod Apart
