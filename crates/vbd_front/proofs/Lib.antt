pub mod PartTurns
pub mod Stays
pub mod Turns
pub mod Unkept
