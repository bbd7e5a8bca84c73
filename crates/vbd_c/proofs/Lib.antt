pub mod Decided
pub mod Asks
pub mod FrontAsks
pub mod FrontMoves
pub mod FrontParts
mod AsBox
mod AsFrontBox
pub mod PartMoves
