pub mod ReadingLaws
pub mod StreamLaws
pub mod KeptLaws
pub mod ConversionLaws
pub mod SpanLaws
pub mod UnreadLaws
pub mod OtherSounds
pub mod UnreadFiles
