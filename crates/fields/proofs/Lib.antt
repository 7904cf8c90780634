-- The laws of the steps of reading: what each accepts, where bits break off, what the code answers, how answers go together, the answers by number, and that 11 is none of reading.
pub mod ReadLaws
pub mod StepLaws
pub mod TakeLaws
pub mod FieldLaws
pub mod CodeLaws
pub mod TableLaws
pub mod ChainLaws
pub mod OutcomeLaws
pub mod Apart
pub mod ByBits
