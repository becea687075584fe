-- Which frames of a recording are played.
use Rattle.std.specs.Prelude.{◌⊎◌, ℕ, ◌-◌, ◌<◌, ◌≤◌, None, IfSome, unwrap_or}
use Rattle.player_core.specs.declared.range.WaveRange.{WaveRange}
use Rattle.wave_core.specs.Heads.{plain}

-- all frames, in a file of the plain form
abbrev pub whole_range : WaveRange
whole_range = record { start = 0; stop = None; head = plain }

-- the frame after the last one of a range, if there are `total` frames
abbrev pub stop_of : WaveRange → ℕ → ℕ
stop_of range total = unwrap_or range.stop total

-- how many frames a range has then
abbrev pub number_of : WaveRange → ℕ → ℕ
number_of range total = stop_of range total - range.start

-- the frames of a range are among `total` frames
abbrev pub IsInside : WaveRange → ℕ → Type 0
IsInside range total = (range.start ≤ stop_of range total) × (stop_of range total ≤ total)

-- a range ends before it begins, or after `total` frames
abbrev pub IsOutside : WaveRange → ℕ → Type 0
IsOutside range total = (stop_of range total < range.start) ⊎ (total < stop_of range total)

-- frame j is in a range
abbrev pub HasFrame : WaveRange → ℕ → Type 0
HasFrame range j = (range.start ≤ j) × IfSome range.stop (λ stop. j < stop)
