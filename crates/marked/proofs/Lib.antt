-- The laws that the proofs of `marked` use.
pub mod AppliedLaws
pub mod MarkedHold
