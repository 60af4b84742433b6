-- Laws about fields to be written.
pub mod NumberLaws
pub mod FieldLaws
