-- What is read of a project and of the files of the takes that it names.
use Rattle.std.specs.Prelude.{◌≡◌, ℕ, List, ◌⊎◌}
use Rattle.request_core.specs.declared.fault.Fault as calls
use Rattle.request_core.specs.declared.fault.Fault.TheVariants.{Memory}
use Rattle.request_core.specs.Projects.{SaysTakes, take_names_of}
use Rattle.form_core.specs.Steps.{FailsUnless}
use Rattle.folder_core.specs.Files.{AreReadOf, IsReadOf, View}
use Rattle.transfer_commands.specs.declared.fault.CommandFault.{CommandFault}
use Rattle.transfer_commands.specs.declared.fault.CommandFault.TheVariants.{Call, ReadFailed, WriteFailed}

-- this text was read of the project, and these bytes of the takes that it names
pub record AreSources (project_name : List ℕ) (old : View) (project : List ℕ) (takes : List (List ℕ)) : Type 0 where
  pub names : List (List ℕ)
  pub project_read : IsReadOf old project_name project
  pub names_said : SaysTakes project names
  pub takes_read : AreReadOf old names takes

-- this is the first fault of listing the takes that a text names which was read of the project
pub record IsUnnamed (project_name : List ℕ) (old : View) (fault : calls.Fault) : Type 0 where
  pub project : List ℕ
  pub project_read : IsReadOf old project_name project
  pub first : FailsUnless Memory fault (take_names_of project)

-- the project or a take that it names was not read for this, and nothing changed
abbrev pub SourcesUnread : List ℕ → View → View → CommandFault → Type 0
SourcesUnread project old new (Call fault) = (new ≡ old) × ((fault ≡ Memory) ⊎ IsUnnamed project old fault)
SourcesUnread project old new ReadFailed = new ≡ old
SourcesUnread project old new WriteFailed = ⊥
