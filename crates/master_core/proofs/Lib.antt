pub mod CertLaws
pub mod ChoiceLaws
pub mod FilingLaws
pub mod MasterLaws
pub mod PartLaws
pub mod WritingLaws
