-- Laws: how the words of the contracts are related.
use Rattle.std.specs.Prelude.{◌≡◌, ◌≤◌, ℕ, ◌%◌, Bool, List, [], length, Ok}
use Rattle.dsd_bits.specs.Channels.{IsLevel, count_of}
use Rattle.dsd_bits.specs.Contents.{Content}
use Rattle.dsd_bits.specs.Layouts.{usual_layout}
use Rattle.dsd_bits.specs.Limits.{IsRate, most_channels}
use Rattle.dsf_core.specs.Fields.{dsf_ids}
use Rattle.dop_core.specs.Reading.{recording_of}
use Rattle.dop_core.specs.Writing.{FitsDop, dop_text}

-- channels at a rate as a recording without anything else
abbrev pub bits_alone : ℕ → List (List Bool) → Content
bits_alone rate channels = record {
  rate = rate;
  channels = channels;
  ids = dsf_ids (length channels);
  layout = usual_layout (length channels);
  marks = [];
  others = [];
  tag = [];
}

-- law: the file that is written of channels at a rate is read as these channels at this rate, bit for bit
abbrev pub WrittenReadAgain : Type 0
WrittenReadAgain = (rate : ℕ) (channels : List (List Bool)) → IsRate rate → rate % 16 ≡ 0 → 1 ≤ length channels → length channels ≤ most_channels → IsLevel channels → FitsDop (length channels) (count_of channels)
    → recording_of (dop_text rate channels) ≡ Ok (bits_alone rate channels)
