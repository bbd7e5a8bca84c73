pub mod State
pub mod Verdict
pub mod Kept
