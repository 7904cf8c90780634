-- The laws of this crate, each file over those above it.
pub mod OneBlock
pub mod SixBlocks
pub mod OneOfSix
pub mod LayoutLaws
pub mod TurnLaws
pub mod OutcomeLaws
