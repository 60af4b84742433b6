-- The laws that the proofs of `judging`, and of the crates above it, use.
pub mod JudgedLaws
pub mod MovedLaws
pub mod ResultLaws
