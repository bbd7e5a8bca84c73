pub mod Short
pub mod Left
pub mod Unbroken
pub mod Widths
pub mod Forms
pub mod Spoken
pub mod Brief
