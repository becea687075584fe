use Rattle.std.proofs.Common.{◌≡◌, ◌-◌, ◌≤◌, ◌++◌}
use Rattle.native_core.specs.Native.{silence}
use Rattle.native_core.proofs.filling.fill.Given as goal

abbrev pub invariant-loop-i : goal.invariant-loop-i
invariant-loop-i l = record {
  made : l.made ≡ l.channel ++ silence l.count (l.i - l.count);
  from : l.count ≤ l.i;
}
