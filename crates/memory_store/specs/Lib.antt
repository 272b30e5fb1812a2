pub mod Slots
pub mod Tables
pub mod Memory
pub mod Cuts
pub mod Memories
pub mod Rooms
pub mod TablesLemmas
