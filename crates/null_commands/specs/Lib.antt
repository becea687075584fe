pub mod Faults
pub mod Lines
pub mod Masters
pub mod Sources
pub mod Testing
