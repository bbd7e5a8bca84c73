pub mod Permitted
pub mod Grantable
pub mod Dumped
pub mod Numbers
pub mod Tells
pub mod Reports
pub mod Kept
