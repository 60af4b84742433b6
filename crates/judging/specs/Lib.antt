-- The definitions of `judging`.
pub mod Results
pub mod Figures
pub mod Steps
