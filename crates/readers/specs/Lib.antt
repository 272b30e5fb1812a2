pub mod ReaderFaults
pub mod Readers
pub mod Moves
pub mod Parts
pub mod ReadSeek
pub mod ItemSeeks
pub mod Agreement
