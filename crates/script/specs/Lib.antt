pub mod Commands
pub mod Hex
pub mod Values
pub mod Words
