pub mod Keys
pub mod Values
pub mod Meaning
pub mod Reading
pub mod ReadingGains
pub mod ReadingMix
pub mod Laws
