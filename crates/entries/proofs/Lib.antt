-- Laws about the places of a written filing.
pub mod EntryLaws
pub mod PlaceLaws
