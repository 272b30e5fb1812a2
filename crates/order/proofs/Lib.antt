pub mod Orders
mod Shifts
pub mod SortedLists
