-- What holds of every cut.
use Rattle.std.specs.Prelude.{◌≡◌, ℕ, ◌+◌, ◌-◌, ◌<◌, ◌≤◌, ◌^◌, length}
use Rattle.dsd_bits.specs.Shape.{HasShape}
use Rattle.splice_core.specs.Cues.{IsSplicing}
use Rattle.cost_core.specs.Channels.{Joins}
use Rattle.cut_core.specs.Cuts.{CutContent, cue_at, cue_bits, master_length, take_channels, window}

-- the window of the bridge after cue i in channel c has the cue's length and the splice's weights, and is made of the
-- ends of both cues
pub record HasWindow (cut : CutContent) (c i : ℕ) : Type 0 where
  pub levels : (window cut c i).levels ≡ (cue_at cut i).bridge
  pub weights : (window cut c i).weights ≡ cut.splice.weights
  pub joins : Joins (cue_bits cut c i) (record { bridging = window cut c i; cue = cue_bits cut c (i + 1) })

-- what holds of every `Cut`: a splice within its limits, a first take that obeys the rules of recordings, in each
-- channel as many bits for a cue as it says, and a window for each bridge
pub record CanCut (cut : CutContent) : Type 0 where
  pub splicing : IsSplicing cut.splice.weights (length cut.splice.takes) cut.splice.cues
  pub shaped : HasShape cut.first
  pub in_limit : master_length cut.splice.cues ≤ 2 ^ 36
  pub long : (c i : ℕ) → c < take_channels cut → i < length cut.splice.cues → length (cue_bits cut c i) ≡ (cue_at cut i).stop - (cue_at cut i).start
  pub windowed : (c i : ℕ) → c < take_channels cut → i + 1 < length cut.splice.cues → HasWindow cut c i
