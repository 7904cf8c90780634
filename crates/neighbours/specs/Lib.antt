-- The neighbours of a block: what it takes of them, and why not.
pub mod Neighbours
pub mod Taken
