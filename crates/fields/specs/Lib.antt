-- The steps of reading: refusals, the reader's steps, when it is stopped, and what the code answers.
pub mod Refusal
pub mod Reader
pub mod Stopped
pub mod Answer
pub mod Outcomes
pub mod Inside
