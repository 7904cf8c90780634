-- The state of a picture: its opening, where its records lie, and the checks of a call.
pub mod Sizes
pub mod Picture
pub mod Ring
pub mod State
pub mod Outcomes
