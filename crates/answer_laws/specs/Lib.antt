pub mod Okay
pub mod Honest
pub mod Counts
pub mod Wrong
