-- The laws that the proofs of `readiness`, and of the crates above it, use.
pub mod MarkLaws
pub mod TurnLaws
