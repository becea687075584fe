pub mod PlaceLaws
pub mod Pulls
pub mod Ranges
pub mod ReadingLaws
pub mod SpelledAgain
pub mod Steps
pub mod WalkLoop
