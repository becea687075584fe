pub mod Bits
pub mod Frames
pub mod Givers
