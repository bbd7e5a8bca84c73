pub mod Words
pub mod Numbers
pub mod State
pub mod Verdicts
