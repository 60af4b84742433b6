-- The laws that the proofs of `calls`, and of the crates above it, use.
pub mod Flags
pub mod Between
pub mod KindLaws
pub mod First
pub mod SaidLaws
pub mod Bit
pub mod MaskLaws
pub mod Times
pub mod SettingLaws
pub mod RangeLaws
pub mod Opened
