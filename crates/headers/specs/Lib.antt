-- The header of a macroblock: its grammar, its reader, the record of its fields, and what the code answers.
pub mod Header
pub mod HeaderReader
pub mod Fields
pub mod Answer
pub mod Outcomes
pub mod Inside
