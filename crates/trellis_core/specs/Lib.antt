pub mod Best
pub mod Decisions
pub mod Handing
pub mod LeastSums
pub mod Passes
