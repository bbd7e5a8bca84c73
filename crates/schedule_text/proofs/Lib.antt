pub mod Joining
pub mod Again
pub mod NarrowWords
pub mod Narrow
pub mod Solid
pub mod Spelling
pub mod EventSpelling
pub mod Gaining
pub mod Adding
mod AccessText
