-- The laws that the proofs of `gathering`, and of the crates above it, use.
pub mod Gathering
