-- The cut of a project and the files of its takes.
use Rattle.std.specs.Prelude.{◌≡◌, ℕ, List, Ok, Option, Result}
use Rattle.chunk_core.specs.Steps.{◌>>=◌}
use Rattle.dsd_bits.specs.Contents.{Content}
use Rattle.splice_core.specs.Splices.{SpliceContent, splice_content}
use Rattle.splice_core.specs.declared.splice.Splice.{Splice}
use Rattle.form_core.specs.declared.form.Form.{Form}
use Rattle.form_core.specs.Steps.{FailsUnless, GivesUnless, map_err}
use Rattle.cut_core.specs.Cuts.{CutContent}
use Rattle.cut_core.specs.declared.fault.CutFault.{CutFault}
use Rattle.cut_core.specs.declared.excerpts.Excerpts.{Excerpts}
use Rattle.cut_core.specs.Excerpts.{AreExcerpts}
use Rattle.cut_core.specs.Opening.{AreRead, OpensCut, cut_of}
use Rattle.request_core.specs.declared.fault.Fault.{Fault}
use Rattle.request_core.specs.declared.fault.Fault.TheVariants.{Memory}
use Rattle.request_core.specs.Faults.{fault_of_cut}
use Rattle.request_core.specs.Projects.{SaysSplice, splice_of_text}

-- the project's text describes a splice, and the files hold takes that it can be cut from, into a file of the form if
-- one is given
pub record SaysCut (project : List ℕ) (files : List (List ℕ)) (form : Option Form) (cut : CutContent) : Type 0 where
  pub splice : SpliceContent
  pub project_says : SaysSplice project splice
  pub opens : OpensCut splice files form cut

-- the project's text describes this splice, the files hold its takes, and `hs` is what was read of them
pub record AreTakes (project : List ℕ) (files : List (List ℕ)) (splice : SpliceContent) (hs : List Excerpts) : Type 0 where
  pub project_says : SaysSplice project splice
  pub whole : List Content
  pub read : AreRead splice files whole
  pub excerpts : AreExcerpts splice whole hs

-- the cut of a project and files, or the first fault: project, its splice, the cut
unfoldable pub said_cut : List ℕ → List (List ℕ) → Option Form → Result CutContent Fault
said_cut project files form = do
  splice ← splice_of_text project
  map_err fault_of_cut (cut_of splice files form)

-- a fault of a cut
abbrev pub IsCutFault : Fault → Type 0
IsCutFault fault = (cut : CutFault) × (fault ≡ fault_of_cut cut)

-- the cut of a project and files was returned, or their first fault, unless memory ran out
abbrev pub ReturnsCut : Option Form → Result CutContent Fault → List ℕ → List (List ℕ) → Type 0
ReturnsCut form result project files = GivesUnless Memory (λ cut. cut) result (said_cut project files form)

-- a fault is the first one of the cut of a project and files, unless memory ran out
abbrev pub IsFaultOfCut : List ℕ → List (List ℕ) → Option Form → Fault → Type 0
IsFaultOfCut project files form fault = FailsUnless Memory fault (said_cut project files form)

-- P holds of each project and files whose splice and takes these are
abbrev pub ForTakes : Splice → List Excerpts → (List ℕ → List (List ℕ) → Type 0) → Type 0
ForTakes splice hs P = (project : List ℕ) (files : List (List ℕ)) → AreTakes project files (splice_content splice) hs → P project files

-- reading in order returns the cut of a project and files
abbrev pub SaysCutInOrder : Type 0
SaysCutInOrder = (project : List ℕ) (files : List (List ℕ)) (form : Option Form) (cut : CutContent) → SaysCut project files form cut → said_cut project files form ≡ Ok cut
