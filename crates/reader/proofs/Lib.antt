-- The laws that the proofs of `reader` use.
pub mod StepLaws
