-- The laws that the proofs of `values`, and of the crates above it, use.
pub mod Tables
pub mod CountLaws
pub mod InRange
pub mod Numbered
pub mod Scores
pub mod SameMeasures
pub mod FeeLaws
pub mod AnyLaws
pub mod Opened
