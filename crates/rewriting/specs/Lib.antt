-- The definitions of `rewriting`.
pub mod Rewriting
