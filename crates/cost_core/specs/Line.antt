-- The targets of a straight line, whatever the takes hold.
use Rattle.std.specs.Prelude.{ℕ, ◌+◌, ◌-◌, ℤ, pos, ◌+ℤ◌, ◌*ℤ◌, List, map, nat_le, if◌then◌else◌}
use Rattle.std.specs.List.{range_with_len}

-- the target of place i of a straight line from level a to level b over n bits
abbrev pub line : ℤ → ℤ → ℕ → ℕ → ℤ
line a b levels i =
    if nat_le i levels
    then (pos (levels + 1 - i) *ℤ a) +ℤ (pos i *ℤ b)
    else pos (levels + 1) *ℤ b

-- the targets of all its places, for a number of weights
abbrev pub line_targets : ℤ → ℤ → ℕ → ℕ → List ℤ
line_targets a b weights levels = map (line a b levels) (range_with_len 1 (levels + (weights - 1)))
