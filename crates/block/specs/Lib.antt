-- One intra block: what is answered of it, from its bits and from its places.
pub mod Decoded
pub mod Rebuilt
pub mod Outcomes
pub mod Short
