pub mod Extracts
pub mod Notes
