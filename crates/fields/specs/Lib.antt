-- The definitions of `fields`.
pub mod Field
pub mod Encoding
pub mod Laws
pub mod Steps
