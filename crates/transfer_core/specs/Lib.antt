pub mod Conversions
pub mod Converting
pub mod Ends
pub mod Laws
pub mod Playing
pub mod Spans
pub mod Streaming
pub mod Unread
