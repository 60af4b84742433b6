-- The definitions of `exponent`.
pub mod Weight
