-- The definitions of `load`.
pub mod Loading
