pub mod OneRange
pub mod Seeking
pub mod Items
pub mod Turns
pub mod Agreeing
