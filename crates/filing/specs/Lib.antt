-- The definitions of `filing`.
pub mod Reader
pub mod Laws
pub mod Ends
