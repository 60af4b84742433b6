-- The definitions of `lines`.
pub mod Lines
