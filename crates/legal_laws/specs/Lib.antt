pub mod Unknown
pub mod Kept
pub mod Legal
pub mod Order
pub mod Promised
pub mod Found
pub mod Runs
