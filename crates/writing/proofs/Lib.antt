-- The laws that the proofs of `writing`, and of the crates above it, use.
pub mod Filings
pub mod MixedMasks
pub mod Accepting
pub mod Rebuilt
pub mod ReadBack
pub mod WrittenLength
pub mod WrittenLaws
