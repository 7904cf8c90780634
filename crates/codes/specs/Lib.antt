-- The code tables of Annex B, and what it is to find a code.
pub mod Component
pub mod Table
pub mod DcSize
pub mod Tcoef
pub mod Rvlc
pub mod Header
pub mod Maxima
pub mod FirstBits
