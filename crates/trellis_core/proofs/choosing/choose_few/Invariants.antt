-- The states below k are chosen.
use Rattle.std.proofs.Common.{◌≡◌, take}
use Rattle.std.specs.Simd.Lanes.{mask_l}
use Rattle.cost_core.specs.Rows.{seconds, least, lower, upper}
use Rattle.trellis_core.proofs.choosing.choose_few.Given as goal

abbrev pub invariant-loop-k : goal.invariant-loop-k
invariant-loop-k l = record {
  row : take l.k l.row ≡ take l.k (least (lower l.ways.old.now l.ways.lows.now) (upper l.ways.old.now l.ways.highs.now));
  choices : l.choices ≡ mask_l (take l.k (seconds (lower l.ways.old.now l.ways.lows.now) (upper l.ways.old.now l.ways.highs.now)));
}
