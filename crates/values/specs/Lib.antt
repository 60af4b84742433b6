-- The definitions of `values`.
pub mod Operators
pub mod Indicator
pub mod Sequence
pub mod Parts
pub mod Bounds
pub mod Steps
pub mod Laws
