use Rattle.std.proofs.Common.{◌≡◌}
use Rattle.clip_core.specs.Contents.{mix_content}
use Rattle.cut_core.specs.Cuts.{each_below}
use Rattle.null_core.specs.Holding as specs
use Rattle.null_core.proofs.ranges.ranges_of.Given as goal

abbrev pub invariant-loop-clip : goal.invariant-loop-clip
invariant-loop-clip l = l.ranges.items ≡ each_below l.clip (specs.range_of (mix_content l.mix) l.number)
