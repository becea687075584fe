use Rattle.std.proofs.Common.{◌≡◌}
use Rattle.splice_core.specs.Splices.{splice_content}
use Rattle.cut_core.specs.Cuts.{each_below}
use Rattle.cut_core.specs.Excerpts as specs
use Rattle.cut_core.proofs.excerpts.ranges_of.Given as goal

abbrev pub invariant-loop-cue : goal.invariant-loop-cue
invariant-loop-cue l = l.ranges.items ≡ each_below l.cue (specs.range_of (splice_content l.splice) l.number)
