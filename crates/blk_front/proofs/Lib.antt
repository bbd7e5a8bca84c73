pub mod EntrySteps
pub mod Grants
pub mod Numbers
pub mod Order
pub mod PartSteps
pub mod Plain
pub mod Shapes
