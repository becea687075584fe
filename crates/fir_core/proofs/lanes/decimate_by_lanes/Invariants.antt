use Rattle.std.proofs.Common.{◌≡◌, map}
use Rattle.std.specs.List.{range_with_len}
use Rattle.fir_core.specs.Decimator.{sample_at}
use Rattle.fir_core.proofs.lanes.decimate_by_lanes.Given as goal

abbrev pub invariant-loop-j : goal.invariant-loop-j
invariant-loop-j l = l.made.items ≡ map (sample_at l.taps l.bits) (range_with_len 0 l.j)
