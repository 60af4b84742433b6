-- The laws that the proofs of `ledger`, and of the crates above it, use.
pub mod AdmissionLaws
pub mod UnattestedLaws
pub mod MoveLaws
pub mod LastEntry
pub mod FirstOfCalls
pub mod TurnLaws
pub mod Opened
