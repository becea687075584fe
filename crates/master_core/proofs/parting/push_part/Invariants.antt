use Rattle.std.proofs.Common.{◌≡◌}
use Rattle.cut_core.specs.Keeping.{CanCut}
use Rattle.cut_core.specs.Claims.{bridge_start}
use Rattle.master_core.proofs.PartLaws.{IsPrefixPart}
use Rattle.master_core.proofs.parting.push_part.Given as goal

abbrev pub invariant-loop-cue : goal.invariant-loop-cue
invariant-loop-cue l = record {
  so_far : IsPrefixPart l.source.cut.now l.channel l.cue l.range l.room.bits;
  place : l.at ≡ bridge_start l.source.cut.now l.cue;
  most : l.room.most ≡ l.fn.room.most;
  can : CanCut l.source.cut.now;
}
