-- One intra macroblock: its values and samples, what is answered of it, with its header handed in or in its bits, and demand 3.
pub mod Six
pub mod Demand
pub mod Answer
pub mod Alone
pub mod InTurn
pub mod Outcomes
pub mod Whole
pub mod WholeReader
pub mod WholeAnswer
