-- The laws of this crate, each file over those above it.
pub mod BlockTests
pub mod RefusalLaws
pub mod LevelLaws
pub mod HandedLaws
pub mod NeededLaws
pub mod SideLaws
pub mod ShortLaws
