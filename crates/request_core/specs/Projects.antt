-- What a project text says that a call needs.
use Rattle.std.specs.Prelude.{◌≡◌, ℕ, List, Some, Result, Ok, Vec, map, string_bytes, ⊤}
use Rattle.std.specs.Option.{ok_or}
use Rattle.std.specs.declared.alloc.Global.{Global}
use Rattle.std.specs.declared.string.String.{String}
use Rattle.chunk_core.specs.Steps.{◌>>=◌}
use Rattle.fir_core.specs.Decimator.{Decimator}
use Rattle.project_core.specs.Meaning.{IsProject}
use Rattle.project_core.specs.Projects.{ProjectContent}
use Rattle.project_core.specs.ReadingProject.{project_at}
use Rattle.splice_core.specs.Splices.{SpliceContent}
use Rattle.request_core.specs.declared.fault.Fault.{Fault}
use Rattle.request_core.specs.declared.fault.Fault.TheVariants.{Project, NoDecimation, NoSplice, Memory}
use Rattle.request_core.specs.Faults.{fault_of_project}
use Rattle.form_core.specs.Steps.{map_err}

-- the text says a project with this decimator
pub record SaysDecimator (text : List ℕ) (d : Decimator) : Type 0 where
  pub project : ProjectContent
  pub says : IsProject text project
  pub has : project.decimate ≡ Some d

-- the text says a project with this splice
pub record SaysSplice (text : List ℕ) (s : SpliceContent) : Type 0 where
  pub project : ProjectContent
  pub says : IsProject text project
  pub has : project.splice ≡ Some s

-- the text says a splice of takes with these names
pub record SaysTakes (text : List ℕ) (names : List (List ℕ)) : Type 0 where
  pub splice : SpliceContent
  pub says : SaysSplice text splice
  pub names_are : names ≡ splice.takes

-- the decimator of a text, or the first fault: project, its decimator
unfoldable pub decimator_of_text : List ℕ → Result Decimator Fault
decimator_of_text text = do
  project ← map_err fault_of_project (project_at text)
  ok_or project.decimate NoDecimation

-- the splice of a text, or the first fault: project, its splice
unfoldable pub splice_of_text : List ℕ → Result SpliceContent Fault
splice_of_text text = do
  project ← map_err fault_of_project (project_at text)
  ok_or project.splice NoSplice

-- the names of the takes of a text, or the first fault: project, its splice
unfoldable pub take_names_of : List ℕ → Result (List (List ℕ)) Fault
take_names_of text = do
  splice ← splice_of_text text
  Ok splice.takes

-- a fault of a project and its decimator
abbrev pub IsOfDecimator : Fault → Type 0
IsOfDecimator (Project fault) = ⊤
IsOfDecimator NoDecimation = ⊤
IsOfDecimator Memory = ⊤
IsOfDecimator _ = ⊥

-- the names as lists of bytes
abbrev pub names_of : Vec (String Global) Global → List (List ℕ)
names_of names = map string_bytes names.items

-- which takes a text cuts
abbrev pub SaysTakesInOrder : Type 0
SaysTakesInOrder = (text : List ℕ) (names : List (List ℕ)) → SaysTakes text names → take_names_of text ≡ Ok names
