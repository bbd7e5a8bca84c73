pub mod Directory
pub mod Paths
pub mod Watches
