pub mod AloneLaws
pub mod AroundLaws
pub mod CallingLaws
mod BlockLaws
mod ByteLaws
pub mod ChannelLaws
pub mod ChunkLaws
pub mod DueLaws
mod EditLaws
pub mod ErrorLaws
pub mod ExcerptLaws
pub mod FileLaws
pub mod FillLaws
pub mod GainLaws
pub mod HeardLaws
pub mod HoldingLaws
pub mod KeptLaws
pub mod LikeLaws
pub mod MidLaws
pub mod MixLaws
pub mod NullLaws
mod OwnLaws
pub mod PartLaws
pub mod ReadingLaws
pub mod SmallLaws
pub mod SpanLaws
pub mod StretchLaws
pub mod VerdictLaws
