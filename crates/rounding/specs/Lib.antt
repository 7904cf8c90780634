-- What the contracts say of rounding; Near serves inner functions of this crate and of those above it.
pub mod Near
pub mod Rounding
