-- The laws of this crate, each file over those above it.
pub mod TakenLaws
pub mod SideLaws
pub mod SoundLaws
