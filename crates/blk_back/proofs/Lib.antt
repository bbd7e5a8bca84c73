pub mod Powers
pub mod Slots
pub mod Hands
pub mod Plain
pub mod Keeping
pub mod Sound
pub mod Parts
pub mod EntryParts
