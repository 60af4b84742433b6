-- The definitions of `calls`.
pub mod Limits
pub mod Masks
pub mod Held
pub mod Answers
pub mod Indicators
pub mod Call
pub mod Laws
