-- The laws of this crate.
pub mod PartLaws
pub mod WordLaws
pub mod NumberLaws
pub mod OverLaws
pub mod HexLaws
pub mod FormLaws
pub mod DataLaws
