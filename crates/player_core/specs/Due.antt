-- The frames that are due after a prefix of the sound bytes.
use Rattle.std.specs.Prelude.{ℕ, Bool, List, map, length}
use Rattle.std.specs.List.{flat_map, range_with_len}
use Rattle.dsd_bits.specs.declared.sound.Sound.{Sound}
use Rattle.dsd_bits.specs.Packing.{unpacked}
use Rattle.dsd_bits.specs.Sounds.{sound_channels}
use Rattle.fir_core.specs.Decimator.{Decimator}
use Rattle.fir_core.specs.Streams.{due_number, bits_held}
use Rattle.wave_core.specs.Texts.{sample_bytes}
use Rattle.player_core.specs.Frames.{frames, frames_below}
use Rattle.player_core.specs.Groups.{channel_part, channel_size}

-- the number of bytes of each channel that are known after n sound bytes
abbrev pub bytes_known : Sound → ℕ → ℕ
bytes_known s size = channel_size s.interleaving s.channels s.count size

-- the known bytes of channel c
abbrev pub channel_bytes : Sound → List ℕ → ℕ → List ℕ
channel_bytes s bytes c = channel_part s.interleaving s.channels bytes c 0 (bytes_known s (length bytes))

-- the known bits of channel c
abbrev pub channel_bits : Sound → List ℕ → ℕ → List Bool
channel_bits s bytes c = unpacked (channel_bytes s bytes c) (bits_held s.count (bytes_known s (length bytes)))

-- all bits of channel c, if all its bytes are known
abbrev pub channel_whole : Sound → List ℕ → ℕ → List Bool
channel_whole s bytes c = unpacked (channel_bytes s bytes c) s.count

-- the known bits of every channel
abbrev pub channels_known : Sound → List ℕ → List (List Bool)
channels_known s bytes = map (channel_bits s bytes) (range_with_len 0 s.channels)

-- the number of frames that are due: those whose place is among the known bits
abbrev pub frames_due : Decimator → Sound → ℕ → ℕ
frames_due d s size = due_number d s.count (bytes_known s size)

-- the bytes of the frames that are due
abbrev pub due_bytes : Decimator → Sound → List ℕ → List ℕ
due_bytes d s bytes = flat_map (sample_bytes d.width) (frames_below d (channels_known s bytes) (frames_due d s (length bytes)))

-- the bytes of all frames of the sound
abbrev pub all_bytes : Decimator → Sound → List ℕ → List ℕ
all_bytes d s bytes = flat_map (sample_bytes d.width) (frames d (sound_channels s.interleaving s.channels s.count bytes))
