pub mod Lists
pub mod EntryRead
pub mod ResponseLaid
pub mod Laid
pub mod Standing
pub mod Back
pub mod Fitting
