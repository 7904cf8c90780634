-- The laws of this crate, each file over those above it.
pub mod OutcomeLaws
pub mod RefusalLaws
pub mod RecordLaws
pub mod KnownLaws
