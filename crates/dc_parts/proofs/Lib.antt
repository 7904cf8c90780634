-- The laws of DC parts: the reader and its grammar, the answer case by case, the answer by number, and that 11 is none of reading.
pub mod DcLaws
pub mod OutcomeLaws
pub mod Apart
pub mod ByBits
