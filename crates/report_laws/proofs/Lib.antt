pub mod KeptReports
pub mod Lines
pub mod Begun
pub mod Looks
pub mod Announced
mod Submitted
mod Held
mod Epochs
mod Aside
mod Phases
pub mod Gone
pub mod Ready
pub mod Closing
pub mod AtRest
pub mod Counts
pub mod Answers
pub mod Ports
pub mod FewPorts
pub mod QuietRing
pub mod States
pub mod Inline
pub mod Texts
pub mod Words
pub mod Told
pub mod Spelled
pub mod Acts
pub mod FrontWords
pub mod FrontNumbers
pub mod FrontSubmitted
pub mod FrontAsks
pub mod JobNumbers
pub mod BackNumbers
pub mod BackAsks
pub mod Numbers
pub mod Grammar
pub mod Refused
pub mod Settled
