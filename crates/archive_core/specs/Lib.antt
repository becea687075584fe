pub mod Editing
pub mod Laws
pub mod Planning
