-- The definitions of `history`.
pub mod History
pub mod Demand
