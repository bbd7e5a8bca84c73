pub mod Text
pub mod Ring
pub mod Stop
