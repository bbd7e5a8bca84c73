pub mod Shape
pub mod Ring
