pub mod Clips
pub mod Contents
pub mod Gains
pub mod Lines
pub mod Mixes
