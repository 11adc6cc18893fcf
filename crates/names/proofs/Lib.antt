pub mod EntryLaws
pub mod PlaceLaws
pub mod NameLaws
pub mod OneReading
