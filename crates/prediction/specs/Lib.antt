-- Intra prediction (7.4.3), each rule a function over the integers, and what is refused.
pub mod Refusal
pub mod Prediction
pub mod Stages
pub mod Outcomes
