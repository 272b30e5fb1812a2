mod OffsetWrites
mod Writes
