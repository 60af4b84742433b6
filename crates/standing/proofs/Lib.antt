-- The laws of `standing`, for whoever fills an array by hand, lends a book part by part, or wants a refusal back from its number.
pub mod Fill
pub mod Filling
pub mod StoredLaws
pub mod LentLaws
pub mod MovedBack
pub mod LastFollows
pub mod Quotients
pub mod ListLimits
