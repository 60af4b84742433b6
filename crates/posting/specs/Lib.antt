-- The definitions of `posting`.
pub mod Parts
