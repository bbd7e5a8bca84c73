pub mod Stations
pub mod Left
