pub mod Accepting
pub mod Auditing
pub mod Checking
pub mod Comparing
pub mod Finding
pub mod Judging
pub mod Kept
pub mod Laws
