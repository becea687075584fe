-- Channels of the same length.
use Rattle.std.specs.Prelude.{◌≡◌, ℕ, Bool, List, [], All, length, slice_index_or}

-- the number of bits of the first channel
abbrev pub count_of : List (List Bool) → ℕ
count_of channels = length (slice_index_or channels 0 [])

-- each channel has as many bits as the first
pub record IsLevel (channels : List (List Bool)) : Type 0 where
  pub same : All (λ channel. length channel ≡ count_of channels) channels
