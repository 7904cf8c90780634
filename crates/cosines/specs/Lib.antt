-- What the contracts say of the constants.
pub mod Cosines
