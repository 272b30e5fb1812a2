pub mod Countdown
pub mod Lowering
pub mod Counts
