pub mod ChannelLaws
pub mod DopLaws
pub mod FillLaws
pub mod FlatLaws
pub mod NativeLaws
pub mod RunLaws
pub mod FeedLaws
