-- The laws that the proofs of `money`, and of the crates above it, use.
pub mod InRange
pub mod Signs
pub mod DifferenceLaws
pub mod BalanceLaws
pub mod AdjustmentLaws
pub mod Amounts
pub mod Opened
