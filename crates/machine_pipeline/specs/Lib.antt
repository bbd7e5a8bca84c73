pub mod Allowed
pub mod Plain
pub mod Submissions
pub mod Sectors
pub mod Step
pub mod Run
