-- The one theorem of the table.
pub mod Table
