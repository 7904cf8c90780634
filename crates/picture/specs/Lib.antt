-- The calls of a picture: six blocks in turn, what is answered, and demand 3 for it.
pub mod Serial
pub mod Turn
pub mod Call
pub mod InPicture
pub mod Outcomes
pub mod Answered
pub mod Whole
pub mod WholeAnswered
