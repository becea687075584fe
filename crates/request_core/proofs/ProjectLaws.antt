-- What a project text says is what its readings in order come to.
use Rattle.std.proofs.Common.{◌≡◌, List, ℕ, None, Option, Some, Ok, inr, option_map, refl}
use Rattle.std.specs.Option.{ok_or}
use Rattle.fir_core.specs.Decimator.{Decimator}
use Rattle.project_core.proofs.ProjectLaws.{project_again}
use Rattle.project_core.specs.Projects.{ProjectContent}
use Rattle.project_core.specs.ReadingProject.{project_at}
use Rattle.splice_core.specs.Splices.{SpliceContent, splice_content}
use Rattle.splice_core.specs.declared.splice.Splice.{Splice}
use Rattle.form_core.specs.Steps.{GivesUnless}
use Rattle.request_core.specs.declared.fault.Fault.TheVariants.{Memory, NoSplice}
use Rattle.request_core.specs.Projects.{SaysDecimator, SaysSplice, SaysTakesInOrder, decimator_of_text, splice_of_text, take_names_of}

pub says_decimator : (text : List ℕ) (d : Decimator) → SaysDecimator text d → decimator_of_text text ≡ Ok d
unfolding decimator_of_text
says_decimator text d is = rw (project_again text is.project is.says, is.has) refl

pub says_takes : SaysTakesInOrder
unfolding take_names_of splice_of_text
says_takes = λ text names is. rw (project_again text is.says.project is.says.says, is.says.has, is.names_are) refl

pub says_splice : (text : List ℕ) (s : SpliceContent) → SaysSplice text s → splice_of_text text ≡ Ok s
unfolding splice_of_text
says_splice text s is = rw (project_again text is.project is.says, is.has) refl

-- the splice of a project that was read, or that it has none
pub splice_given : (text : List ℕ) (p : ProjectContent) → project_at text ≡ Ok p → (s : Option Splice) → p.splice ≡ option_map splice_content s → GivesUnless Memory splice_content (ok_or s NoSplice) (splice_of_text text)
unfolding splice_of_text
splice_given text p read None is = inr (rw (read, is) refl)
splice_given text p read (Some s) is = rw (read, is) refl
