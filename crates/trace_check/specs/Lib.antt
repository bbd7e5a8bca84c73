pub mod Outline
pub mod Trace
pub mod Found
pub mod Text
