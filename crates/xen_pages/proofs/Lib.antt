pub mod Apart
pub mod Parts
pub mod Words
mod Zeros
