-- The laws that the proofs of `settlement`, and of the crates above it, use.
pub mod UnjoinedLaws
pub mod SettledLaws
pub mod Opened
