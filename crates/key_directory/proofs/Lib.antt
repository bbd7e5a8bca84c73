pub mod Below
pub mod Entries
