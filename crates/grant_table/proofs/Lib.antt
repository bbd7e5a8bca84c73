pub mod Bits
pub mod Keeps
pub mod Live
pub mod Lookups
pub mod Place
