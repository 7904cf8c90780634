-- From a level to a dequantised value (7.4.4.1 to 7.4.4.4), each rule a function over the integers.
pub mod Methods
pub mod Stages
pub mod Outcomes
