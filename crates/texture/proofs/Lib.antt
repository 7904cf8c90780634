-- The laws of event lists: refused codes, the reader and its grammar, the loop, the answer by number, and that 11 is none of reading.
pub mod CodeLaws
pub mod ListLaws
pub mod LoopLaws
pub mod OutcomeLaws
pub mod Apart
pub mod ByBits
