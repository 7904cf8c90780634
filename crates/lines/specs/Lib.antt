-- A line that is being read.
pub mod Fed
