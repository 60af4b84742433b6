-- The definitions of `settlement`.
pub mod Settlement
pub mod Laws
