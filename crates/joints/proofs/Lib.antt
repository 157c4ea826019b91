-- The proof of the table of `joints`.
pub mod Table
