-- The laws that the proofs of `history`, and of the crates above it, use.
pub mod EntryLaws
pub mod TableLaws
pub mod BoundsKept
pub mod SameKept
pub mod StepLaws
pub mod Kept
