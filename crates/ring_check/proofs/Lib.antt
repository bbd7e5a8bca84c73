pub mod Telling
pub mod Untouched
pub mod Following
pub mod Decided
pub mod Counting
