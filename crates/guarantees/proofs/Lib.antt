-- The laws that the proofs of `guarantees`, and of the crates above it, use.
pub mod Demand1Holds
pub mod Demand2Holds
pub mod CountsAside
pub mod Demand3Holds
