pub mod Segments
pub mod Verdict
pub mod Places
pub mod Remaining
pub mod Cut
