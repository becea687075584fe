pub mod Best
pub mod Certificates
pub mod Certifying
pub mod Choosing
pub mod Filing
pub mod Parting
pub mod Planning
pub mod Writing
