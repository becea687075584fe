-- How much of what is before and after a recording has to be known, so that it is played between them.
use Rattle.std.specs.Prelude.{◌≡◌, ℕ, ◌+◌, ◌-◌, ◌*◌, ◌≤◌, ◌⊎◌, Bool, List, ◌++◌, drop, length, map, take}
use Rattle.dsd_bits.specs.Channels.{IsLevel, count_of}
use Rattle.dsd_bits.specs.Contents.{Content}
use Rattle.fir_core.specs.Decimator.{Decimator}
use Rattle.player_core.specs.Between.{between_pcm, frame_after, joined}
use Rattle.player_core.specs.Playing.{part_pcm}

-- channels without the bits before frame m
abbrev pub from_frame : Decimator → ℕ → List (List Bool) → List (List Bool)
from_frame d m channels = map (drop (m * d.factor)) channels

-- the first bits of channels
abbrev pub first_bits : ℕ → List (List Bool) → List (List Bool)
first_bits count channels = map (take count) channels

-- no tap of the first frame after `count` bits reads a bit before frame m
abbrev pub IsFarEnough : Decimator → ℕ → ℕ → Type 0
IsFarEnough d count m = (m ≡ 0) ⊎ (length d.taps ≤ (frame_after d count - m) * d.factor + d.delay + 1)

-- of what is before a recording the bits from frame m on are enough, if the first frame of the recording reads none before
abbrev pub TailIsEnough : Type 0
TailIsEnough = (d : Decimator) (r : Content) (before after : List (List Bool)) (m : ℕ) → 1 ≤ d.factor → 1 ≤ length r.channels → IsLevel before → length before ≡ length r.channels → IsLevel r.channels
    → m * d.factor ≤ count_of before → IsFarEnough d (count_of before) m
    → between_pcm r d (from_frame d m before) after ≡ between_pcm r d before after

-- of what is after a recording as many bits are enough as the delay of the filter
abbrev pub HeadIsEnough : Type 0
HeadIsEnough = (d : Decimator) (r : Content) (before after : List (List Bool)) (count : ℕ) → 1 ≤ d.factor → 1 ≤ length r.channels → IsLevel before → length before ≡ length r.channels → IsLevel r.channels → length after ≡ length r.channels
    → d.delay ≤ count → between_pcm r d before (first_bits count after) ≡ between_pcm r d before after

-- ---- tracks that follow each other
-- one recording and the next are neighbours: joined to what is around it, each makes the same channels, and the next
-- begins where the one ends
pub record AreNeighbours (r next : Content) (before after before_next after_next all : List (List Bool)) : Type 0 where
  pub own : joined before r.channels after ≡ all
  pub own_next : joined before_next next.channels after_next ≡ all
  pub meets : count_of before_next ≡ count_of before + count_of r.channels

-- the samples of one recording and those of the next, each between its neighbours, are the samples of all joined from
-- the first frame of the one to the last of the next
abbrev pub TracksMeet : Type 0
TracksMeet = (d : Decimator) (r next : Content) (before after before_next after_next all : List (List Bool)) → 1 ≤ d.factor → AreNeighbours r next before after before_next after_next all
    → (between_pcm r d before after).samples ++ (between_pcm next d before_next after_next).samples
    ≡ (part_pcm (record r { channels = all }) d (frame_after d (count_of before)) (frame_after d (count_of before_next + count_of next.channels))).samples
