-- What the proofs over a walker share.
pub mod WalkedLaws
pub mod Turns
pub mod Owned
pub mod ByWalk
pub mod Returned
