pub mod Text
pub mod Filling
pub mod Giving
