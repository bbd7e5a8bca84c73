pub mod Feeds
pub mod Taking
pub mod Giving
