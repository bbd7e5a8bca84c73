pub mod Movers
pub mod AtOnce
pub mod Laws
pub mod Calls
