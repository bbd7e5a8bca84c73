pub mod Lines
pub mod Rules
pub mod Word
pub mod Shown
