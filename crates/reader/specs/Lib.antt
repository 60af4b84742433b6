-- The definitions of `reader`.
pub mod Steps
