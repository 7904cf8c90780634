-- The laws of this crate, each file over those above it.
pub mod BlockSums
pub mod RefusalLaws
pub mod Products
pub mod DcLaws
pub mod LimitLaws
pub mod MismatchLaws
pub mod AnswerLaws
pub mod OutcomeLaws
pub mod ZeroLaws
pub mod RowSums
pub mod ByRowsLaws
