-- The layouts of channels, which are the channel types of DSF 1.01: 1 mono, 2 stereo, 3 three channels, 4 quad, 5 four
-- channels, 6 five channels, 7 five channels and a low-frequency one.
use Rattle.std.specs.Prelude.{ℕ, ◌+◌, ◌-◌, nat_lt, if◌then◌else◌}

-- the number of channels of a layout, or 0 for a number that isn't a layout
abbrev pub layout_channels : ℕ → ℕ
layout_channels layout = if nat_lt layout 5 then layout else if nat_lt layout 8 then layout - 1 else 0

-- the layout of channels of which only the number is known
abbrev pub usual_layout : ℕ → ℕ
usual_layout number = if nat_lt number 5 then number else number + 1
