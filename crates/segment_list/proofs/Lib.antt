pub mod Ends
pub mod Ranges
pub mod Served
pub mod Spots
pub mod Packed
