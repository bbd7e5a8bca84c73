pub mod KeptMappings
pub mod PutBack
pub mod Stored
