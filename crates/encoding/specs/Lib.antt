-- The definitions of `encoding`.
pub mod Fields
