pub mod Items
pub mod Picks
