-- The laws that the proofs of `exponent`, and of the crates above it, use.
pub mod Entries
pub mod Laws
pub mod Opened
