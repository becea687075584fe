use Rattle.std.proofs.Common.{◌≡◌, ◌*◌, drop, length, take}
use Rattle.dsdarc_c.specs.Numbers.{AreSamplesIn}
use Rattle.dsdarc_c.proofs.samples.pull_numbers.Given as goal

-- the first numbers are given, and the others are as they were
abbrev pub invariant-loop-place : goal.invariant-loop-place
invariant-loop-place l =
    (length l.out ≡ length l.initial.out) × AreSamplesIn (l.size * 8) (take (l.place * l.size) l.left) (take l.place l.out) × (drop l.place l.out ≡ drop l.place l.initial.out)
