-- The definitions of `gathering`.
pub mod Steps
