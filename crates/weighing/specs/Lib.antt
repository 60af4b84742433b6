-- The definitions of `weighing`.
pub mod Steps
