use Rattle.std.proofs.Common.{◌≡◌, map}
use Rattle.toml.specs.View.{items_view}
use Rattle.project_core.specs.Tables.{list_of}
use Rattle.splice_core.specs.Cues.{cue_content}
use Rattle.project_core.specs.ReadingCue.{cue_of}
use Rattle.project_core.specs.ReadingSplice.{cues_of}
use Rattle.project_core.proofs.Each.{values_left}
use Rattle.project_core.proofs.splice_table.cues_of.Given as goal

abbrev pub invariant-loop-number : goal.invariant-loop-number
invariant-loop-number l = values_left (cue_of l.weights l.takes) (map cue_content l.cues.items) l.number l.values ≡ cues_of l.weights l.takes (list_of (items_view l.values))
