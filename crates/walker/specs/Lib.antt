-- The definitions of `walker`.
pub mod Walk
