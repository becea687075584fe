use Rattle.std.proofs.Common.{◌≡◌, Bool, List, [], replicate}
use Rattle.sound_core.specs.Stretches.{items_of}
use Rattle.sound_core.proofs.keeper.no_stretches.Given as goal

abbrev pub invariant-loop-range : goal.invariant-loop-range
invariant-loop-range l = items_of l.made.items ≡ replicate l._range (replicate {A = List Bool} l.channels [])
