pub mod Holds
pub mod Keys
pub mod Values
