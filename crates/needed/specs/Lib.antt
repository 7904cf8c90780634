-- Inside the crate: what is needed of a block's neighbours, and the tests of a stored record.
pub mod Stored
pub mod Sides
