-- The laws that the proofs of `posting`, and of the crates above it, use.
pub mod AnswerLaws
