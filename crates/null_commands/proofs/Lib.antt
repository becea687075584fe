pub mod MasterLaws
pub mod ReadLaws
pub mod SourceLaws
pub mod TakeLaws
pub mod TestLaws
pub mod LineLaws
