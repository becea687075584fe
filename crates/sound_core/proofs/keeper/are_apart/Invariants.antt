use Rattle.std.proofs.Common.{ℕ, ◌<◌, ◌≤◌, ◌⊎◌, get_or}
use Rattle.dsd_bits.specs.declared.stretches.BitRange.{BitRange}
use Rattle.sound_core.proofs.keeper.are_apart.Given as goal

abbrev pub invariant-loop-range : goal.invariant-loop-range
invariant-loop-range l = (i : ℕ) (r : BitRange) → i < l.range-index → (l.stop ≤ (get_or l.ranges i r).start) ⊎ ((get_or l.ranges i r).stop ≤ l.start)
