-- The definitions of `exact`.
pub mod Division
