-- The laws that the proofs of `fields`, and of the crates above it, use.
pub mod ContentLaws
pub mod FieldLaws
pub mod FirstOfFields
pub mod EncodingLaws
pub mod Opened
