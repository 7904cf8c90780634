-- The laws of this crate.
pub mod StateLaws
pub mod CheckedLaws
pub mod SixLaws
pub mod DemandLaws
pub mod AloneLaws
pub mod InTurnLaws
pub mod WholeLaws
pub mod WholeAnswerLaws
pub mod Apart
