pub mod View
pub mod Inside
pub mod Ask
pub mod Step
pub mod Keeping
pub mod Sound
pub mod Hands
pub mod Part
