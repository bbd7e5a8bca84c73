pub mod Request
pub mod Sector
pub mod Disk
pub mod Step
pub mod Stands
pub mod Refusal
pub mod Honest
pub mod Echo
