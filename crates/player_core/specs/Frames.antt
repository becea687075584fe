-- The samples of several channels, frame by frame.
use Rattle.std.specs.Prelude.{ℕ, ◌/◌, ℤ, Bool, List, length, map}
use Rattle.std.specs.List.{flat_map, range_with_len}
use Rattle.std.specs.Int.{div_ceil}
use Rattle.fir_core.specs.Decimator.{Decimator, sample_at, samples_of}
use Rattle.dsd_bits.specs.Channels.{count_of}
use Rattle.wave_core.specs.Frames.{frames_of}
use Rattle.wave_core.specs.Texts.{sample_bytes}

-- frame j: sample j of each channel, in order
abbrev pub frame : Decimator → List (List Bool) → ℕ → List ℤ
frame d channels j = map (λ bits. sample_at d bits j) channels

-- the first frames, one after the other
abbrev pub frames_below : Decimator → List (List Bool) → ℕ → List ℤ
frames_below d channels count = flat_map (frame d channels) (range_with_len 0 count)

-- the number of frames: those j from 0 on with j * factor below the number of bits
abbrev pub frame_count : Decimator → List (List Bool) → ℕ
frame_count d channels = div_ceil (count_of channels) d.factor

-- all frames
abbrev pub frames : Decimator → List (List Bool) → List ℤ
frames d channels = frames_below d channels (frame_count d channels)

-- the samples of n frames from one on, channel by channel
abbrev pub tile_of : Decimator → List (List Bool) → ℕ → ℕ → List ℤ
tile_of d channels start number = flat_map (λ bits. samples_of d bits start number) channels

-- the bytes of the first frames
abbrev pub frame_bytes : Decimator → List (List Bool) → ℕ → List ℕ
frame_bytes d channels count = flat_map (sample_bytes d.width) (frames_below d channels count)

-- the bytes of samples that come channel by channel, frame by frame
abbrev pub tile_bytes : ℕ → ℕ → List ℤ → List ℕ
tile_bytes width channels tile = flat_map (sample_bytes width) (frames_of tile (length tile / channels))
