mod Shifts
mod Finding
mod OffsetWrites
mod Removals
