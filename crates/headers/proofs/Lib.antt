-- The laws of headers.
pub mod RecordLaws
pub mod McbpcLaws
pub mod HeaderLaws
pub mod PartLaws
pub mod WindowLaws
pub mod AnswerLaws
pub mod Apart
