pub mod Listings
pub mod Picks
pub mod StoredKeys
pub mod ListingExamples
