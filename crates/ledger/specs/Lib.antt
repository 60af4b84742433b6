-- The definitions of `ledger`.
pub mod Table
pub mod Calls
pub mod Filed
pub mod Steps
