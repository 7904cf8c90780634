-- The laws of this crate, each file over those above it.
pub mod PredictionLaws
pub mod MissingLaws
pub mod ScalerLaws
pub mod RefusalLaws
pub mod OutcomeLaws
