pub mod Rules
pub mod Entries
pub mod Words
pub mod Progress
pub mod State
pub mod Verdicts
pub mod Laws
