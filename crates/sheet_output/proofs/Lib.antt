-- The laws of `sheet_output`.
pub mod ArgumentLaws
pub mod CountLaws
