-- Frames of samples that come channel by channel.
use Rattle.std.specs.Prelude.{ℕ, ◌+◌, ◌*◌, ◌/◌, ℤ, pos, List, length, map, slice_index_or}
use Rattle.std.specs.List.{flat_map, range_with_len}
use Rattle.wave_core.specs.Texts.{sample_bytes}

-- frame i of samples that come channel by channel, n of each: sample i of each channel, in order
abbrev pub frame_of : List ℤ → ℕ → ℕ → List ℤ
frame_of samples frames i = map (λ c. slice_index_or samples (c * frames + i) (pos 0)) (range_with_len 0 (length samples / frames))

-- all frames, one after the other
abbrev pub frames_of : List ℤ → ℕ → List ℤ
frames_of samples frames = flat_map (frame_of samples frames) (range_with_len 0 frames)

-- the bytes of all frames
abbrev pub frame_bytes : ℕ → List ℤ → ℕ → List ℕ
frame_bytes width samples frames = flat_map (sample_bytes width) (frames_of samples frames)
