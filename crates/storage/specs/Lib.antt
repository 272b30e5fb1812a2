pub mod Contents
pub mod Faults
pub mod Readings
pub mod Writes
pub mod Stores
pub mod Erasures
pub mod Examples
