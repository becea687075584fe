-- A splice with what it reads of its takes.
use Rattle.std.specs.Prelude.{ℕ, ◌+◌, ◌-◌, ◌≤◌, ◌^◌, ◌≡◌, Bool, List, [], All, length, map, slice_index_or}
use Rattle.std.specs.List.{range_with_len, sum_by}
use Rattle.dsd_bits.specs.Channels.{count_of}
use Rattle.dsd_bits.specs.Contents.{Content}
use Rattle.dsd_bits.specs.Stretches.{silent}
use Rattle.splice_core.specs.Cues.{CueContent, IsCueWithin}
use Rattle.splice_core.specs.Splices.{SpliceContent}
use Rattle.cost_core.specs.Bridges.{Bridging}
use Rattle.cost_core.specs.Windows as fades

-- a splice, the first of its takes without its bits, and by cue and by channel the bits that are cut and the windows of
-- the bridges
pub record CutContent : Type 0 where
  pub splice : SpliceContent
  pub first : Content
  pub cued : List (List (List Bool))
  pub windows : List (List Bridging)

-- take i; past the last one an empty recording
abbrev pub take_at : List Content → ℕ → Content
take_at takes i = slice_index_or takes i (record { rate = 0; channels = []; ids = []; layout = 0; marks = []; others = []; tag = [] })

-- channel c of the take of cue i
abbrev pub source : SpliceContent → List Content → ℕ → ℕ → List Bool
source splice takes c i = slice_index_or (take_at takes (fades.splice_cue splice i).take).channels c []

-- f of each number below n
abbrev pub each_below : {X : Type 0} → ℕ → (ℕ → X) → List X
each_below n f = map f (range_with_len 0 n)

-- the cut of a splice and its takes: each cue's bits and each bridge's window in each channel, from the bits of the
-- takes
abbrev pub cut_with : SpliceContent → List Content → CutContent
cut_with splice takes =
    let number = length (take_at takes 0).channels in
    record {
      splice = splice;
      first = silent (take_at takes 0);
      cued = each_below (length splice.cues) (λ i. each_below number (λ c. fades.cued splice i (source splice takes c i)));
      windows = each_below (length splice.cues - 1) (λ i. each_below number (λ c. fades.bridging splice i (source splice takes c i) (source splice takes c (i + 1))));
    }

-- cue i; past the last one an empty cue
abbrev pub cue_at : CutContent → ℕ → CueContent
cue_at cut i = fades.splice_cue cut.splice i

-- the number of bits of cue i
abbrev pub cue_length : CutContent → ℕ → ℕ
cue_length cut i = (cue_at cut i).stop - (cue_at cut i).start

-- a cue is within the limits of a splice
abbrev pub IsCueOf : SpliceContent → CueContent → Type 0
IsCueOf splice cue = IsCueWithin (length splice.weights) (length splice.takes) cue

-- the number of channels of the takes, and so of the master
abbrev pub take_channels : CutContent → ℕ
take_channels cut = length cut.first.channels

-- the bits of cue i in channel c
abbrev pub cue_bits : CutContent → ℕ → ℕ → List Bool
cue_bits cut c i = slice_index_or (slice_index_or cut.cued i []) c []

-- an empty bridge
abbrev pub no_bridging : Bridging
no_bridging = record { weights = []; levels = 0; preceding = []; following = []; targets = [] }

-- the window of the bridge after cue i in channel c
abbrev pub window : CutContent → ℕ → ℕ → Bridging
window cut c i = slice_index_or (slice_index_or cut.windows i []) c no_bridging

-- the number of bits of each channel of the take of cue i
abbrev pub count_at : SpliceContent → List Content → ℕ → ℕ
count_at splice takes i = count_of (take_at takes (fades.splice_cue splice i).take).channels

-- the number of bits of a channel that a cue and the bridge after it take
abbrev pub span : CueContent → ℕ
span cue = (cue.stop - cue.start) + cue.bridge

-- the number of bits of each channel of the master
abbrev pub master_length : List CueContent → ℕ
master_length cues = sum_by span cues

-- two recordings have the same rate and the same number of channels
pub record AreAlike (first r : Content) : Type 0 where
  pub same_rate : r.rate ≡ first.rate
  pub as_many_channels : length r.channels ≡ length first.channels

-- a recording is like the first of the takes
abbrev pub IsAlike : List Content → Content → Type 0
IsAlike takes r = AreAlike (take_at takes 0) r

-- the cue ends within its take
abbrev pub IsInside : List Content → CueContent → Type 0
IsInside takes cue = cue.stop ≤ count_of (take_at takes cue.take).channels

-- the takes fit the splice: their number is right, they are alike, each cue ends within its take, and the master is
-- within the limit
pub record FitTakes (splice : SpliceContent) (takes : List Content) : Type 0 where
  pub as_many : length takes ≡ length splice.takes
  pub alike : All (IsAlike takes) takes
  pub inside : All (IsInside takes) splice.cues
  pub in_limit : master_length splice.cues ≤ 2 ^ 36
