-- The definitions of `indicators`.
pub mod Points
pub mod Sequence
pub mod Laws
pub mod Steps
