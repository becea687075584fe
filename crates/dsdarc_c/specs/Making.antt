-- Whether a player is made by a project text, and what it is then.
use Rattle.std.specs.Prelude.{◌≡◌, ◌≢◌, ◌⊎◌, ℕ, List, [], Option, None, Some, Result, Ok, Err}
use Rattle.fir_core.specs.Decimator.{Decimator}
use Rattle.project_core.specs.Projects.{ProjectContent}
use Rattle.project_core.specs.ReadingProject.{project_at}
use Rattle.project_core.specs.declared.fault.ProjectFault.{ProjectFault}
use Rattle.project_core.specs.declared.fault.ProjectFault.TheVariants as faults
use Rattle.dsdarc_c.specs.Whole.{waiting}
use Rattle.dsdarc_c.specs.declared.pushing.Pushing.{Pushing}
use Rattle.dsdarc_c.specs.declared.pushing.Stage.TheVariants as stages

-- the status of a fault of a project text
abbrev pub status_of_project : ProjectFault → ℕ
status_of_project faults.Memory = 3
status_of_project faults.NotToml = 11
status_of_project (faults.UnknownKey table) = 12
status_of_project (faults.MissingKey key table) = 13
status_of_project (faults.WrongKind key table) = 14
status_of_project (faults.OutOfLimit key table) = 15
status_of_project (faults.NoTake cue take takes) = 16
status_of_project (faults.ShortCue cue start stop weights) = 17
status_of_project (faults.LastBridge cue bridge) = 18

-- the status of a project, by its filter: 0 if it has one, and otherwise 10
abbrev pub status_of_filter : Option Decimator → ℕ
status_of_filter None = 10
status_of_filter (Some d) = 0

-- the status of what a text is read as: that of the project that it states, or of the first fault
abbrev pub status_of_text : Result ProjectContent ProjectFault → ℕ
status_of_text (Ok p) = status_of_filter p.decimate
status_of_text (Err fault) = status_of_project fault

-- this is the status of this project text, or 3, out of memory
abbrev pub IsStatusOfProject : List ℕ → ℕ → Type 0
IsStatusOfProject text status = (status ≡ 3) ⊎ (status ≡ status_of_text (project_at text))

-- no player is made by this project text, and this is the status that says why
abbrev pub RefusesProject : List ℕ → ℕ → Type 0
RefusesProject text status = IsStatusOfProject text status × (status ≢ 0)

-- the project text states this filter
abbrev pub StatesFilter : List ℕ → Decimator → Type 0
StatesFilter text d = (content : ProjectContent) × (project_at text ≡ Ok content) × (content.decimate ≡ Some d)

-- the player has this filter, and was pushed nothing of any file
pub record IsNew (d : Decimator) (p : Pushing) : Type 0 where
  pub taps : p.taps ≡ d
  pub place : p.place ≡ 0
  pub header : p.header.items ≡ []
  pub stage : p.stage ≡ stages.Header 16
  pub stated : p.stated ≡ None
  pub waits : waiting p ≡ []

-- the player is new, and has the filter that the project text states
abbrev pub IsMadeBy : List ℕ → Pushing → Type 0
IsMadeBy text p = (d : Decimator) × StatesFilter text d × IsNew d p
