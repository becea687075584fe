mod ClipLaws
pub mod LineLaws
mod PointLaws
mod SumLaws
