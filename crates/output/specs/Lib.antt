-- The definitions of `output`.
pub mod Output
