pub mod Closing
pub mod Parts
pub mod Faults
pub mod Laws
pub mod Wrong
