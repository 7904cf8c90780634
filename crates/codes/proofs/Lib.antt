-- The laws of tables, of the search and of bits that end inside a code, the tables' tests, and the component of a block by number.
pub mod SearchLaws
pub mod TableLaws
pub mod CutLaws
pub mod PrefixFree
pub mod FirstBitsLaws
pub mod HeaderLaws
pub mod Maxima
pub mod ComponentLaws
