pub mod Total
pub mod Calls
pub mod Laws
