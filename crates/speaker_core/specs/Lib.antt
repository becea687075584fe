pub mod Laws
pub mod Reordered
pub mod Reordering
pub mod Speakers
