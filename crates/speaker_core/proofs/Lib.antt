pub mod ChannelLaws
pub mod GroupLaws
mod ListLaws
pub mod ReadingLaws
pub mod SpeakerLaws
