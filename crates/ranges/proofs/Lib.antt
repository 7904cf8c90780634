-- Ranges as bounds, and the limits of a depth.
pub mod Powers
pub mod RangeLaws
pub mod DepthLaws
