-- What is played of a recording.
use Rattle.std.specs.Prelude.{◌/◌, length}
use Rattle.dsd_bits.specs.Contents.{Content}
use Rattle.fir_core.specs.Decimator.{Decimator}
use Rattle.wave_core.specs.Contents.{Pcm}
use Rattle.player_core.specs.Frames.{frames}

-- the samples of a recording: its channels, at its rate divided by the decimation factor, frame by frame
abbrev pub pcm : Content → Decimator → Pcm
pcm r d = record { channels = length r.channels; rate = r.rate / d.factor; width = d.width; samples = frames d r.channels }
