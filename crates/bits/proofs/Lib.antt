-- The laws of bits and numbers.
pub mod BitLaws
pub mod ByteLaws
pub mod CursorLaws
pub mod CutLaws
pub mod AheadLaws
pub mod OutcomeLaws
