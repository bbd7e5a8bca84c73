pub mod Waits
pub mod Histories
pub mod Steps
