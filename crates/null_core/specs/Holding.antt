-- What a mix reads of its takes.
use Rattle.std.specs.Prelude.{◌≡◌, ℕ, ◌+◌, ◌-◌, ◌/◌, Bool, ◌&&◌, not, nat_le, ◌==◌, if◌then◌else◌, List, All, length, map, slice_index_or}
use Rattle.std.specs.List.{list_any, range_with_len}
use Rattle.dsd_bits.specs.declared.stretches.BitRange.{BitRange}
use Rattle.dsd_bits.specs.Contents.{Content}
use Rattle.dsd_bits.specs.Shape.{HasShape}
use Rattle.dsd_bits.specs.Channels.{count_of}
use Rattle.dsd_bits.specs.Stretches.{silent, stretches_of}
use Rattle.clip_core.specs.Clips.{ClipContent}
use Rattle.clip_core.specs.Clips.GainContent.{full}
use Rattle.clip_core.specs.Mixes.{MixContent}
use Rattle.cut_core.specs.Cuts.{each_below, take_at}
use Rattle.cut_core.specs.Excerpts.{ExcerptsContent, excerpts_content}
use Rattle.cut_core.specs.declared.excerpts.Excerpts.{Excerpts}
use Rattle.null_core.specs.Asking.{taps_of}

-- ---- which bits
-- clip i; past the last one an empty clip
abbrev pub clip_at : MixContent → ℕ → ClipContent
clip_at mix i = slice_index_or mix.clips i (record { take = 0; decoder = 0; start = 0; at = 0; length = 0; gains = full })

-- the range of bits that a clip's sound needs of its take: its own, and those around them that its decoder reaches
abbrev pub clip_range : MixContent → ℕ → BitRange
clip_range mix i =
    let reach = length (taps_of mix (clip_at mix i)) / 2 in
    record { start = (clip_at mix i).start - reach; stop = (clip_at mix i).start + (clip_at mix i).length + reach }

-- what clip j needs of its take has all that clip i needs
abbrev pub serves : MixContent → ℕ → ℕ → Bool
serves mix i j = ((clip_at mix j).take == (clip_at mix i).take) && nat_le (clip_range mix j).start (clip_range mix i).start && nat_le (clip_range mix i).stop (clip_range mix j).stop

-- what clip i needs is kept for it, as no clip before it needs all of that too
abbrev pub is_kept : MixContent → ℕ → Bool
is_kept mix i = not (list_any (serves mix i) (range_with_len 0 i))

-- the range of bits that is read for clip i from the take of a number; empty if the clip is of another take, or if a clip
-- before it needs these bits too
abbrev pub range_of : MixContent → ℕ → ℕ → BitRange
range_of mix number i = if ((clip_at mix i).take == number) && is_kept mix i then clip_range mix i else record { start = 0; stop = 0 }

-- these ranges, of each clip in turn
abbrev pub ranges_of : MixContent → ℕ → List BitRange
ranges_of mix number = each_below (length mix.clips) (range_of mix number)

-- what a mix reads of a recording, its take of a number
abbrev pub excerpts_of : MixContent → ℕ → Content → ExcerptsContent
excerpts_of mix number r = record { recording = silent r; count = count_of r.channels; stretches = stretches_of r.channels (ranges_of mix number) }

-- `hs` is what the mix reads of these takes, which obey the rules of recordings
pub record AreExcerpts (mix : MixContent) (takes : List Content) (hs : List Excerpts) : Type 0 where
  pub shaped : All HasShape takes
  pub excerpts : map excerpts_content hs ≡ each_below (length takes) (λ number. excerpts_of mix number (take_at takes number))
