-- The definitions of `readiness`.
pub mod Readiness
