-- The definitions of `writing`.
pub mod Written
pub mod Laws
