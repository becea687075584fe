pub mod Native
pub mod Runs
