-- What is played of the rest of a channel's bits.
use Rattle.std.specs.Prelude.{◌≡◌, ℕ, ◌+◌, ◌-◌, ◌*◌, ◌≤◌, ◌⊎◌, Bool, List, drop, length}
use Rattle.std.specs.Int.{div_ceil}
use Rattle.fir_core.specs.Decimator.{Decimator, sample_at}

-- the first sample whose taps read nothing before a channel's first bit
abbrev pub first_whole : Decimator → ℕ
first_whole d = div_ceil (length d.taps - (d.delay + 1)) d.factor

-- the samples of a channel's bits without those before sample m are samples of the whole, from the first whose taps read nothing before the rest
abbrev pub RestIsPlayed : Type 0
RestIsPlayed = (d : Decimator) (bits : List Bool) (m j : ℕ) → (m ≡ 0) ⊎ (length d.taps ≤ j * d.factor + d.delay + 1) → sample_at d (drop (m * d.factor) bits) j ≡ sample_at d bits (m + j)
