pub mod LeadLaws
pub mod HeaderLaws
pub mod HeaderEnds
pub mod StatedLaws
pub mod FormEnds
pub mod OtherSound
pub mod WalkLaws
pub mod Alike
pub mod AnySound
pub mod HeadLaws
pub mod LocatedLaws
pub mod PastLaws
pub mod CutLaws
pub mod FaultyLaws
pub mod FaultyPlaces
pub mod HeldLaws
pub mod DescribedLaws
pub mod ClosingLaws
pub mod SeekLoop
pub mod HeaderSteps
pub mod RefuseLoop
pub mod Steps
pub mod JoinedSteps
pub mod ExitLaws
pub mod KindLaws
pub mod SpanLaws
pub mod OnceLoop
pub mod OnceLaws
pub mod KeptLoop
pub mod MarkLaws
pub mod MasterLoop
pub mod ShapeLaws
pub mod FormLaws
pub mod PropertyLaws
pub mod SoundLaws
pub mod MasterLaws
pub mod FileLaws
mod PlaceLemmas
mod WritingLemmas
mod WrittenAgain
mod WrittenForms
mod WrittenMarks
mod WrittenOthers
mod WrittenParts
