pub mod Both
pub mod WordLemmas
pub mod SectorLemmas
pub mod Again
pub mod SectorAgain
pub mod TextLemmas
pub mod Solid
mod Digits
mod Spaced
