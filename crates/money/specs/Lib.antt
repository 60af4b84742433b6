-- The definitions of `money`.
pub mod Money
