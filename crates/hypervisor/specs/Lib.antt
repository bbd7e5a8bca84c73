pub mod Hypervisor
pub mod Act
pub mod May
pub mod Disk
pub mod Suspend
pub mod Does
