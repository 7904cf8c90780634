-- The bits of bytes, what a cursor reads of them, and its answers by number.
pub mod Bits
pub mod Ahead
pub mod Cursor
pub mod Outcomes
