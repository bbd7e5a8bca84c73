mod Settling
pub mod Turns
mod Plain
mod Open
mod Parts
mod Kept
pub mod EntryParts
