-- The definitions of `admission`.
pub mod Admission
