-- The laws that the proofs of `report`, and of the crates above it, use.
pub mod PrintedLaws
pub mod AnswerLaws
pub mod Opened
