pub mod SortedSets
pub mod Components
pub mod Children
pub mod Gathers
pub mod Fills
pub mod ListingAnswers
pub mod Sums
pub mod ListingExamples
