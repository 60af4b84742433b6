-- The laws of `sheets`.
pub mod SheetLaws
pub mod TotalLaws
