-- The definitions of `text`.
pub mod Text
pub mod Buffer
pub mod Steps
pub mod Laws
