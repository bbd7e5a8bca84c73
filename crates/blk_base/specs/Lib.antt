pub mod Access
pub mod Becomes
pub mod Distance
pub mod Kinds
pub mod Operation
pub mod Options
