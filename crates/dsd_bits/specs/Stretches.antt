-- Parts of channels, and a recording without its bits.
use Rattle.std.specs.Prelude.{Bool, List, [], length, map, replicate, slice_range}
use Rattle.dsd_bits.specs.declared.stretches.BitRange.{BitRange}
use Rattle.dsd_bits.specs.Contents.{Content}

-- the bits that each channel has in a range, as far as it reaches
abbrev pub stretch_of : List (List Bool) → BitRange → List (List Bool)
stretch_of channels range = map (λ bits. slice_range bits range.start range.stop) channels

-- the bits in each range in turn
abbrev pub stretches_of : List (List Bool) → List BitRange → List (List (List Bool))
stretches_of channels ranges = map (stretch_of channels) ranges

-- a recording without its bits: it has as many channels, all empty
abbrev pub silent : Content → Content
silent r = record r { channels = replicate (length r.channels) [] }
