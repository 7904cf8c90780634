-- Where a reader stands after a call.
pub mod BitReader
