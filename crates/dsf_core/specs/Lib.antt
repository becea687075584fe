pub mod Fields
pub mod Files
pub mod Headers
pub mod Laws
pub mod ReadAgain
pub mod Reading
pub mod Steps
pub mod Writing
