pub mod Reading
pub mod Outlines
pub mod Follows
pub mod Firsts
pub mod Premises
pub mod Told
pub mod Steps
