pub mod Cues
pub mod Splices
