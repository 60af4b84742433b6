-- The definitions of `sheet_output`.
pub mod Argument
pub mod SheetOutput
