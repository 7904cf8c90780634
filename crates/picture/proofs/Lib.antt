-- The laws of this crate.
pub mod SerialLaws
pub mod TurnLaws
pub mod CallLaws
pub mod WholeLaws
pub mod BehindLaws
pub mod DueLaws
pub mod Apart
