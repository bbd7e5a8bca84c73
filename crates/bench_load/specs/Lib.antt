pub mod Generated
pub mod Left
pub mod Text
pub mod Summary
pub mod Grammar
