pub mod Apart
pub mod Pages
