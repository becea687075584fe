pub mod CuttingLaws
pub mod FormLaws
pub mod ProjectLaws
