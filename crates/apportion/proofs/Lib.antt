-- The laws that the proofs of `apportion`, and of the crates above it, use.
pub mod Fill
pub mod Sums
pub mod Order
pub mod Awarded
pub mod Shared
pub mod Opened
pub mod FromFn
pub mod Mapped
