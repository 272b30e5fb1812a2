pub mod Examples
pub mod Patches
