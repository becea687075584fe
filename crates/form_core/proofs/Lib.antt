pub mod OpeningLaws
pub mod PartLaws
pub mod WrittenLaws
