-- The laws of this crate.
pub mod MethodLaws
pub mod AnswerLaws
