pub mod Words
pub mod Numbers
pub mod Sector
pub mod Texts
