pub mod Lines
pub mod Asked
pub mod Reading
