pub mod BitLaws
pub mod FrameNumbers
pub mod FrameLaws
pub mod GiverLaws
