-- The laws of this crate.
pub mod LineLaws
pub mod TextLaws
pub mod DecimalLaws
pub mod SpanLaws
pub mod StillLaws
pub mod AnswerLaws
pub mod RoomLaws
pub mod StepLaws
pub mod StreamLaws
