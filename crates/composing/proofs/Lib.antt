-- The table, shown once for all entries.
pub mod Table
