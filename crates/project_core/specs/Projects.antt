-- What a project holds.
use Rattle.std.specs.Prelude.{Option, option_map}
use Rattle.fir_core.specs.Decimator.{Decimator}
use Rattle.project_core.specs.declared.project.Project.{Project}
use Rattle.splice_core.specs.Splices.{SpliceContent, splice_content}

-- a project: how a recording is played, and how takes are cut together
pub record ProjectContent : Type 0 where
  pub decimate : Option Decimator
  pub splice : Option SpliceContent

-- what a project holds
abbrev pub project_content : Project → ProjectContent
project_content p = record { decimate = p.decimate; splice = option_map splice_content p.splice }
