-- The text of a RIFF WAVE file of PCM samples (Microsoft and IBM, Multimedia Programming Interface and Data
-- Specifications 1.0; Microsoft, WAVEFORMATEXTENSIBLE).
use Rattle.std.specs.Prelude.{ℕ, suc, ◌-◌, ◌*◌, ◌/◌, ◌^◌, ℤ, pos, negsuc, List, [], ◌∷◌, ◌++◌, length, codes, nat_lt, if◌then◌else◌, Option, Some, None, replicate}
use Rattle.std.specs.List.{flat_map}
use Rattle.chunk_core.specs.declared.numbers.Order.TheVariants.{Little}
use Rattle.chunk_core.specs.Numbers.{bytes_of}
use Rattle.wave_core.specs.Contents.{Pcm, WaveSpec}
use Rattle.wave_core.specs.Sizes.{block_align, data_size, format_size, is_extensible, pad_size, riff_size}

-- the header of the RIFF chunk, and its type
abbrev pub riff_head : ℕ → List ℕ
riff_head size = codes "RIFF" ++ bytes_of Little 4 size ++ codes "WAVE"

-- the format tag: that of integer samples, or that of a format chunk in its second form
abbrev pub format_tag : ℕ → ℕ → ℕ
format_tag channels width = if is_extensible channels width then 65534 else 1

-- the subformat of integer samples: 00000001-0000-0010-8000-00aa00389b71 as a file stores its bytes
abbrev pub pcm_subformat : List ℕ
pcm_subformat = 1 ∷ 0 ∷ 0 ∷ 0 ∷ 0 ∷ 0 ∷ 16 ∷ 0 ∷ 128 ∷ 0 ∷ 0 ∷ 170 ∷ 0 ∷ 56 ∷ 155 ∷ 113 ∷ []

-- the further fields of the second form: how many bytes follow, the number of valid bits of a sample, the channel mask,
-- and the subformat
abbrev pub extension : ℕ → ℕ → ℕ → List ℕ
extension mask channels width =
    if is_extensible channels width then bytes_of Little 2 22 ++ bytes_of Little 2 width ++ bytes_of Little 4 mask ++ pcm_subformat else []

-- the format chunk: its size, the tag, the channels, the frames and the bytes per second, the bytes of a frame, the
-- bits of a sample, and the second form's extension with a channel mask
abbrev pub masked_format : ℕ → ℕ → ℕ → ℕ → List ℕ
masked_format mask channels rate width =
    codes "fmt " ++ bytes_of Little 4 (format_size channels width) ++ bytes_of Little 2 (format_tag channels width) ++ bytes_of Little 2 channels
    ++ bytes_of Little 4 rate ++ bytes_of Little 4 (rate * block_align channels width) ++ bytes_of Little 2 (block_align channels width)
    ++ bytes_of Little 2 width ++ extension mask channels width

-- the format chunk that assigns no channel to a loudspeaker
abbrev pub format_chunk : ℕ → ℕ → ℕ → List ℕ
format_chunk = masked_format 0

-- the header of the data chunk
abbrev pub data_head : ℕ → List ℕ
data_head size = codes "data" ++ bytes_of Little 4 size

-- all bytes before the samples of n frames, with a channel mask
unfoldable pub masked_header : ℕ → ℕ → ℕ → ℕ → ℕ → List ℕ
masked_header mask channels rate width frames =
    riff_head (riff_size channels width frames) ++ (masked_format mask channels rate width ++ data_head (data_size channels width frames))

-- all bytes before the samples of n frames, if no channel is assigned to a loudspeaker
abbrev pub header : ℕ → ℕ → ℕ → ℕ → List ℕ
header = masked_header 0

-- the format chunk of a file with this description and channel mask
abbrev pub format_of : ℕ → WaveSpec → List ℕ
format_of mask s = masked_format mask s.channels s.rate s.width

-- all bytes before its samples, with the two sizes in them
abbrev pub head_of : ℕ → WaveSpec → ℕ → ℕ → List ℕ
head_of mask s riff_bytes sound_bytes = riff_head riff_bytes ++ (format_of mask s ++ data_head sound_bytes)

-- all bytes before its samples, for n frames
abbrev pub header_of : WaveSpec → ℕ → List ℕ
header_of s frames = header s.channels s.rate s.width frames

-- the number that stands for a value in two's complement of `width` bits (negsuc n is -1 - n)
abbrev pub twos_complement : ℕ → ℤ → ℕ
twos_complement width (pos n) = n
twos_complement width (negsuc n) = 2 ^ width - suc n

-- a sample: two's complement, the lowest byte first
abbrev pub sample_bytes : ℕ → ℤ → List ℕ
sample_bytes width value = bytes_of Little (width / 8) (twos_complement width value)

-- what follows the samples of n frames: one zero byte after odd data, else nothing
abbrev pub pad_bytes : ℕ → ℕ → ℕ → List ℕ
pad_bytes channels width frames = replicate (pad_size channels width frames) 0

-- the number of frames
abbrev pub pcm_frames : Pcm → ℕ
pcm_frames p = length p.samples / p.channels

-- the file: the header, each sample, the pad; none if the RIFF chunk's size does not fit 32 bits
abbrev pub wave_text : Pcm → Option (List ℕ)
wave_text p =
    if nat_lt (riff_size p.channels p.width (pcm_frames p)) (2 ^ 32)
    then Some (header p.channels p.rate p.width (pcm_frames p) ++ (flat_map (sample_bytes p.width) p.samples ++ pad_bytes p.channels p.width (pcm_frames p)))
    else None
