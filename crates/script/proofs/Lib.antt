pub mod Appends
pub mod Blanks
pub mod Hexadecimal
pub mod Lines
pub mod Values
