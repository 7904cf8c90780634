-- The forms of a line.
pub mod Words
pub mod Forms
pub mod Reading
