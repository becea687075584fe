pub mod NumberLaws
pub mod GainLaws
pub mod OverlapLaws
pub mod ClipLaws
pub mod MixLaws
