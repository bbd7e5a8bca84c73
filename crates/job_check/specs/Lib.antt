pub mod Kept
pub mod Laws
pub mod Open
pub mod Published
pub mod Replies
pub mod State
pub mod Verdict
