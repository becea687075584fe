pub mod DescribingLaws
pub mod FileLaws
pub mod HeaderLaws
pub mod ShapeLaws
pub mod Steps
pub mod StatedLaws
pub mod WrittenAgain
