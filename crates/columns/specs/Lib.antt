-- The definitions of `columns`.
pub mod Columns
