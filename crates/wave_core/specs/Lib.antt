pub mod Contents
pub mod Frames
pub mod Heads
pub mod Laws
pub mod Places
pub mod Sizes
pub mod Texts
