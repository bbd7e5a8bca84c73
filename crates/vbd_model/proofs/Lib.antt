pub mod Keeping
pub mod Running
pub mod Joining
pub mod Echo
pub mod Possible
pub mod Submitting
pub mod Tight
pub mod Mappings
