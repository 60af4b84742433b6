-- The laws that the proofs of `indicators`, and of the crates above it, use.
pub mod Largest
pub mod OnesLaws
pub mod WeightLaws
pub mod Weighting
pub mod SequenceLaws
pub mod PointLaws
pub mod NumberLaws
pub mod Opened
