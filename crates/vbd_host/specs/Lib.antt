pub mod Answer
pub mod Moves
