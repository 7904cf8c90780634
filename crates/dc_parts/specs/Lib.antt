-- DC parts: sentences, the reader, and what the code answers.
pub mod Dc
pub mod DcReader
pub mod Answer
pub mod Outcomes
