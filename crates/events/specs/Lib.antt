-- Events: sentences, the reader, and what the code answers.
pub mod Event
pub mod EventReader
pub mod Spellings
pub mod Rows
pub mod Answer
pub mod Outcomes
pub mod Inside
