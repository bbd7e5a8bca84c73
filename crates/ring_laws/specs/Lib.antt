pub mod Unmaps
pub mod Own
pub mod Layout
pub mod Handed
