-- What the contracts say of eight f64s.
pub mod Eights
