-- The definitions of `book`.
pub mod Book
