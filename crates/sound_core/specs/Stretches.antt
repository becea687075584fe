-- Stretches of channels: bits of each channel in ranges of places, and how they grow.
use Rattle.std.specs.Prelude.{◌≡◌, ℕ, ◌+◌, ◌-◌, ◌<◌, ◌≤◌, ◌⊎◌, Bool, List, [], ◌++◌, Vec, get_or, length, map, slice_range}
use Rattle.std.specs.declared.alloc.Global.{Global}
use Rattle.dsd_bits.specs.Limits.{most_bits}
use Rattle.dsd_bits.specs.Stretches.{stretch_of}
use Rattle.dsd_bits.specs.declared.stretches.BitRange.{BitRange}

-- the channels of stretches in memory
abbrev pub items_of : List (Vec (List Bool) Global) → List (List (List Bool))
items_of stretches = map (λ (stretch : Vec (List Bool) Global). stretch.items) stretches

-- ---- stages

-- no range has a bit between these places
abbrev pub AreApart : List BitRange → ℕ → ℕ → Type 0
AreApart ranges start stop = (i : ℕ) (r : BitRange) → i < length ranges → (stop ≤ (get_or ranges i r).start) ⊎ ((get_or ranges i r).stop ≤ start)

-- the channels can be appended to a stretch of as many channels
pub record IsRoomy (channels stretch : List (List Bool)) : Type 0 where
  pub number : length stretch ≡ length channels
  pub room : (c : ℕ) → c < length stretch → length (get_or stretch c []) + length (get_or channels c []) ≤ most_bits

-- the channels can be appended to each of some stretches
abbrev pub AreRoomy : List (List Bool) → List (List (List Bool)) → Type 0
AreRoomy channels stretches = (i : ℕ) → i < length stretches → IsRoomy channels (get_or stretches i [])

-- what the channels, which follow `done` bits, have in a range was appended to its stretch
pub record IsGrown (range : BitRange) (channels : List (List Bool)) (done : ℕ) (old new : List (List Bool)) : Type 0 where
  pub number : length new ≡ length old
  pub each : (c : ℕ) → c < length old → get_or new c [] ≡ get_or old c [] ++ slice_range (get_or channels c []) (range.start - done) (range.stop - done)

-- what the channels have in each range was appended to its stretch
pub record AreGrown (ranges : List BitRange) (channels : List (List Bool)) (done : ℕ) (old new : List (List (List Bool))) : Type 0 where
  pub number : length new ≡ length old
  pub each : (i : ℕ) (r : BitRange) → i < length old → IsGrown (get_or ranges i r) channels done (get_or old i []) (get_or new i [])

-- these are the stretches of the channels
pub record AreStretches (channels : List (List Bool)) (ranges : List BitRange) (stretches : List (List (List Bool))) : Type 0 where
  pub number : length stretches ≡ length ranges
  pub each : (i : ℕ) (r : BitRange) → i < length ranges → get_or stretches i [] ≡ stretch_of channels (get_or ranges i r)
