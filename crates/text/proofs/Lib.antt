-- Laws about texts in a lent slice.
pub mod WrittenLaws
pub mod DigitLaws
pub mod StoredDigits
pub mod SignLaws
pub mod FittingLaws
pub mod Opened
