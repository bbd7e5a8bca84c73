pub mod Unfinished
pub mod Stored
