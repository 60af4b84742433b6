-- The definitions of `marked`.
pub mod Marked
