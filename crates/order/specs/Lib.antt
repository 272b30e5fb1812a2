pub mod Orders
pub mod SortedLists
