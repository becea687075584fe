pub mod DiskLaws
pub mod FileLaws
pub mod ZeroLaws
