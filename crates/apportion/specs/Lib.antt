-- The definitions of `apportion`.
pub mod Sum
pub mod Share
pub mod Steps
pub mod Laws
