-- The ranges that document 01 names.
pub mod Range
