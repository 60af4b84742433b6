-- The laws that the proofs of `exact`, and of the crates above it, use.
pub mod Product
