use Rattle.std.proofs.Common.{◌≡◌, map, take}
use Rattle.native_core.specs.Native.{filled}
use Rattle.native_core.proofs.filling.fill_all.Given as goal

abbrev pub invariant-loop-c : goal.invariant-loop-c
invariant-loop-c l = l.made.items ≡ map (filled l.unit) (take l.c l.channels)
