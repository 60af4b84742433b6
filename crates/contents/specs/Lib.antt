-- The definitions of `contents`.
pub mod Content
