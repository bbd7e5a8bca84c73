pub mod Field
pub mod Places
pub mod Entry
pub mod Response
pub mod Written
pub mod Range
