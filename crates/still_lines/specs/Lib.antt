-- The lines of `still`: splitting, what is said to each form, the state between lines, and what is written for a whole input.
pub mod Decimal
pub mod Text
pub mod Spans
pub mod Lines
pub mod Still
pub mod Transcript
pub mod Steps
