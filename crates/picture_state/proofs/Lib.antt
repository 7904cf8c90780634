-- The laws of this crate.
pub mod StateLaws
pub mod RingLaws
pub mod Apart
