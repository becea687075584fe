-- What was read of the files of a project's takes.
use Rattle.std.specs.Prelude.{ℕ, List}
use Rattle.splice_core.specs.Splices.{splice_content}
use Rattle.cut_core.specs.Opening.{ReturnsAllExcerpts, takes_of}
use Rattle.request_core.specs.Projects.{SaysSplice}
use Rattle.transfer_commands.specs.declared.sources.Sources.{Sources}

-- the project's text describes the splice, and this was read of the files of its takes, or is the first fault of what
-- they hold
pub record AreExcerptsOf (project : List ℕ) (files : List (List ℕ)) (s : Sources) : Type 0 where
  pub project_says : SaysSplice project (splice_content s.splice)
  pub reads_excerpts : ReturnsAllExcerpts (splice_content s.splice) s.takes (takes_of (splice_content s.splice) files)
