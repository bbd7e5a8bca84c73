pub mod View
pub mod Ask
pub mod Step
pub mod Keeping
pub mod Turn
pub mod Inside
pub mod Part
