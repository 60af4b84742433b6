-- The laws that the proofs of `book`, and of the crates above it, use.
pub mod EveryLaws
pub mod SlotLaws
pub mod Mixed
pub mod FlatRange
pub mod Bounds
pub mod TakenLaws
pub mod SameBooks
pub mod Opened
