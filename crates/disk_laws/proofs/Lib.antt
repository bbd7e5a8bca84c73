pub mod OfADisk
pub mod Runs
pub mod Reports
pub mod Before
