-- What the proofs of the lent calls share.
pub mod Plain
pub mod Passed
pub mod Locals
pub mod Contracts
pub mod LentCall
pub mod HeldCall
pub mod Filings
pub mod Readings
