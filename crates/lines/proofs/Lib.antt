-- The laws that the proofs of `lines`, and of the crates above it, use.
pub mod LineLaws
pub mod Opened
