-- The laws of this crate.
pub mod ValueLaws
pub mod AnswerLaws
pub mod RowLaws
pub mod RebuildLaws
pub mod OutcomeLaws
pub mod Apart
pub mod Blocks
pub mod ShortLaws
pub mod ShortAnswers
pub mod HandedLaws
