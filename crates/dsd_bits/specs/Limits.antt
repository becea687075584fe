-- The limits of a recording, and the blocks of DSF 1.01.
use Rattle.std.specs.Prelude.{ℕ, ◌^◌, ◌≤◌}

-- the most channels of a recording: 6
abbrev pub most_channels : ℕ
most_channels = 6

-- the most bits of a channel: 2 ^ 36
abbrev pub most_bits : ℕ
most_bits = 2 ^ 36

-- the least rate: 1,000,000 hertz
abbrev pub least_rate : ℕ
least_rate = 1000000

-- the greatest rate: 50,000,000 hertz
abbrev pub greatest_rate : ℕ
greatest_rate = 50000000

-- a rate of a recording: from the least to the greatest
abbrev pub IsRate : ℕ → Type 0
IsRate rate = (least_rate ≤ rate) × (rate ≤ greatest_rate)

-- the bytes of a channel in a block: 4096 (DSF 1.01)
abbrev pub block_bytes : ℕ
block_bytes = 4096

-- the bits of a channel in a block: 32768
abbrev pub block_bits : ℕ
block_bits = 32768
