pub mod View
pub mod Ask
pub mod Step
pub mod Turn
pub mod Part
pub mod Keep
pub mod Inside
pub mod Sound
