pub mod FrameLaws
pub mod JoinLaws
pub mod PlaceLaws
pub mod TakenLaws
pub mod GroupLaws
pub mod MovingLaws
