mod FaultLaws
pub mod FrameLaws
pub mod JoinLaws
mod SampleLaws
pub mod SizeLaws
