pub mod Sums
pub mod RoundingLemmas
pub mod InPlace
pub mod LimitLaws
pub mod RowLaws
pub mod RestLaws
pub mod StreamLaws
pub mod SumOrder
pub mod Dot
pub mod TileLaws
pub mod StrideLaws
pub mod WindowLaws
pub mod LaneLaws
pub mod LaneSigns
pub mod LaneSums
mod ExitLaws
