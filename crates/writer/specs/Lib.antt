-- The definitions of `writer`.
pub mod Writer
