pub mod Exports
pub mod Adapters
pub mod Steps
