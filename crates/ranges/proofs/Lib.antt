pub mod Questions
pub mod RangeExamples
pub mod ReadLists
pub mod Writes
