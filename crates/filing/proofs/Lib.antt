-- The laws that the proofs of `filing`, and of the crates above it, use.
pub mod WalkLaws
pub mod ReadLaws
pub mod EndLaws
pub mod Opened
