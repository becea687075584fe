-- What a splice reads of its takes: which bits, and what else decides whether it can be cut.
use Rattle.std.specs.Prelude.{◌≡◌, ℕ, zero, suc, ◌+◌, ◌-◌, ◌<◌, ◌==◌, if◌then◌else◌, Bool, List, [], All, length, map, slice_index_or, slice_range}
use Rattle.dsd_bits.specs.declared.stretches.BitRange.{BitRange}
use Rattle.dsd_bits.specs.Channels.{count_of}
use Rattle.dsd_bits.specs.Contents.{Content}
use Rattle.dsd_bits.specs.Shape.{HasShape}
use Rattle.dsd_bits.specs.Stretches.{silent, stretches_of}
use Rattle.splice_core.specs.Splices.{SpliceContent}
use Rattle.cost_core.specs.Faults.{reach_at}
use Rattle.cost_core.specs.Windows.{bridging_at, splice_cue}
use Rattle.cut_core.specs.Cuts.{CutContent, each_below, take_at}
use Rattle.cut_core.specs.declared.excerpts.Excerpts.{Excerpts}

-- ---- which bits
-- how many bits before cue i the target of the bridge before it reads
abbrev pub lead_at : SpliceContent → ℕ → ℕ
lead_at splice zero = 0
lead_at splice (suc i) = (reach_at splice i).before

-- the first bit that is read for cue i
abbrev pub excerpt_start : SpliceContent → ℕ → ℕ
excerpt_start splice i = (splice_cue splice i).start - lead_at splice i

-- the place after the last bit that is read for cue i
abbrev pub excerpt_stop : SpliceContent → ℕ → ℕ
excerpt_stop splice i = (splice_cue splice i).stop + (reach_at splice i).after

-- the range of bits that is read for cue i from the take of a number; empty if cue i is of another take
abbrev pub range_of : SpliceContent → ℕ → ℕ → BitRange
range_of splice number i = if (splice_cue splice i).take == number then record { start = excerpt_start splice i; stop = excerpt_stop splice i } else record { start = 0; stop = 0 }

-- these ranges, of each cue in turn
abbrev pub ranges_of : SpliceContent → ℕ → List BitRange
ranges_of splice number = each_below (length splice.cues) (range_of splice number)

-- ---- what is read of a take
-- a recording without its bits, the number of bits of each channel, and by cue and by channel the bits that are read
pub record ExcerptsContent : Type 0 where
  pub recording : Content
  pub count : ℕ
  pub stretches : List (List (List Bool))

-- the content of a `Excerpts`
abbrev pub excerpts_content : Excerpts → ExcerptsContent
excerpts_content h = record { recording = h.recording; count = h.count; stretches = map (λ stretch. stretch.items) h.stretches.items }

-- what a splice reads of a recording, its take of a number
abbrev pub excerpts_of : SpliceContent → ℕ → Content → ExcerptsContent
excerpts_of splice number r = record { recording = silent r; count = count_of r.channels; stretches = stretches_of r.channels (ranges_of splice number) }

-- what it reads of all its takes, by their numbers
abbrev pub excerpts_of_takes : SpliceContent → List Content → List ExcerptsContent
excerpts_of_takes splice takes = each_below (length takes) (λ number. excerpts_of splice number (take_at takes number))

-- `hs` is what the splice reads of these takes, which obey the rules of recordings
pub record AreExcerpts (splice : SpliceContent) (takes : List Content) (hs : List Excerpts) : Type 0 where
  pub shaped : All HasShape takes
  pub excerpts : map excerpts_content hs ≡ excerpts_of_takes splice takes

-- `hs` is what the splice reads of some takes, as many as it has
pub record AreOfTakes (splice : SpliceContent) (hs : List Excerpts) : Type 0 where
  pub whole : List Content
  pub excerpts : AreExcerpts splice whole hs
  pub as_many : length whole ≡ length splice.takes

-- ---- what else decides
-- the rate of a take, the number of its channels and the number of bits of each; they decide whether it can be cut
pub record TakeShape : Type 0 where
  pub rate : ℕ
  pub channels : ℕ
  pub count : ℕ

-- the shape of a recording
abbrev pub shape_of : Content → TakeShape
shape_of r = record { rate = r.rate; channels = length r.channels; count = count_of r.channels }

-- the shape of the take that something was read of
abbrev pub excerpts_shape : ExcerptsContent → TakeShape
excerpts_shape h = record { rate = h.recording.rate; channels = length h.recording.channels; count = h.count }

-- the shape of each take in turn
abbrev pub excerpts_shapes : List Excerpts → List TakeShape
excerpts_shapes hs = map (λ h. excerpts_shape (excerpts_content h)) hs

-- the shape of take i; past the last take, all zeros
abbrev pub shape_at : List TakeShape → ℕ → TakeShape
shape_at shapes i = slice_index_or shapes i (record { rate = 0; channels = 0; count = 0 })

-- the shape of the take of cue i
abbrev pub shape_of_cue : SpliceContent → List TakeShape → ℕ → TakeShape
shape_of_cue splice shapes i = shape_at shapes (splice_cue splice i).take

-- ---- the cut made from what was read
-- where a cue starts in the bits that are read for it
abbrev pub start_in : SpliceContent → ℕ → ℕ
start_in splice i = (splice_cue splice i).start - excerpt_start splice i

-- where a cue ends in the bits that are read for it
abbrev pub stop_in : SpliceContent → ℕ → ℕ
stop_in splice i = (splice_cue splice i).stop - excerpt_start splice i

-- what was read of take i; past the last one nothing
abbrev pub excerpts_at : List ExcerptsContent → ℕ → ExcerptsContent
excerpts_at hs i = slice_index_or hs i (record { recording = take_at [] 0; count = 0; stretches = [] })

-- what was read of the take of cue i
abbrev pub excerpts_of_cue : SpliceContent → List Excerpts → ℕ → ExcerptsContent
excerpts_of_cue splice hs i = excerpts_at (map excerpts_content hs) (splice_cue splice i).take

-- the shape of the take of cue i
abbrev pub cue_shape : SpliceContent → List Excerpts → ℕ → TakeShape
cue_shape splice hs i = shape_of_cue splice (excerpts_shapes hs) i

-- what was read for cue i, by channel
abbrev pub stretches_at : SpliceContent → List ExcerptsContent → ℕ → List (List Bool)
stretches_at splice hs i = slice_index_or (excerpts_at hs (splice_cue splice i).take).stretches i []

-- what was read for cue i in channel c
abbrev pub stretch_at : SpliceContent → List ExcerptsContent → ℕ → ℕ → List Bool
stretch_at splice hs c i = slice_index_or (stretches_at splice hs i) c []

-- something was read for cue i in channel c
pub record HasStretch (splice : SpliceContent) (hs : List ExcerptsContent) (c i : ℕ) : Type 0 where
  pub cue_there : i < length (excerpts_at hs (splice_cue splice i).take).stretches
  pub channel_there : c < length (stretches_at splice hs i)

-- the cut made from what was read
abbrev pub cut_of_excerpts : SpliceContent → List ExcerptsContent → CutContent
cut_of_excerpts splice hs =
    let number = length (excerpts_at hs 0).recording.channels in
    record {
      splice = splice;
      first = (excerpts_at hs 0).recording;
      cued = each_below (length splice.cues) (λ i. each_below number (λ c. slice_range (stretch_at splice hs c i) (start_in splice i) (stop_in splice i)));
      windows = each_below (length splice.cues - 1) (λ i. each_below number (λ c. bridging_at splice i (stretch_at splice hs c i) (stop_in splice i) (stretch_at splice hs c (i + 1)) (start_in splice (i + 1))));
    }
