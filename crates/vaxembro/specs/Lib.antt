-- What the lent numbers of a call mean, and what it leaves in them.
pub mod Lent
pub mod Answer
pub mod Calls
pub mod Fields
