-- The targets of a fade, by the takes' own bits.
use Rattle.std.specs.Prelude.{ℕ, ◌+◌, ◌-◌, ℤ, pos, ◌+ℤ◌, ◌*ℤ◌, Bool, List, map, length, nat_le, if◌then◌else◌}
use Rattle.std.specs.List.{range_with_len}
use Rattle.cost_core.specs.declared.seam.Seam.{Seam}
use Rattle.cost_core.specs.Weighted.{weighted}

-- the target of place i of a linear fade of n bits, from the end `stop` of a cue in the take a to the start of a cue in
-- the take b
abbrev pub fade : List ℤ → List Bool → ℕ → List Bool → ℕ → ℕ → ℕ → ℤ
fade weights a stop b start levels i =
    if nat_le i levels
    then (pos (levels + 1 - i) *ℤ weighted weights a (stop + i - 1)) +ℤ (pos i *ℤ weighted weights b (start - levels + i - 1))
    else pos (levels + 1) *ℤ weighted weights b (start + i - levels - 1)

-- the targets of all its places
abbrev pub fade_targets : List ℤ → List Bool → ℕ → List Bool → ℕ → ℕ → List ℤ
fade_targets weights a stop b start levels = map (fade weights a stop b start levels) (range_with_len 1 (levels + (length weights - 1)))

-- the target of place i of a fade of n bits over a seam
abbrev pub fade_over : List ℤ → Seam → ℕ → ℕ → ℤ
fade_over weights seam levels i = fade weights seam.own.now seam.stop seam.next.now seam.start levels i

-- the targets of all places of a fade of n bits over a seam
abbrev pub targets_over : List ℤ → Seam → ℕ → List ℤ
targets_over weights seam levels = fade_targets weights seam.own.now seam.stop seam.next.now seam.start levels
