-- The laws that the proofs of `contents`, and of the crates above it, use.
pub mod NumberLaws
pub mod TagLaws
pub mod Opened
