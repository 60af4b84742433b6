-- The definitions of `entries`.
pub mod Entries
