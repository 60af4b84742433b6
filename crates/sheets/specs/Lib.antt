-- The definitions of `sheets`.
pub mod Sheet
pub mod Total
