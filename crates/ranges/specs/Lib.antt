pub mod Buffers
pub mod Examples
pub mod Orders
pub mod Ranges
pub mod ReadLists
pub mod Refusals
pub mod RangeOrder
