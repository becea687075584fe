-- The sizes in a WAVE file, in bytes (Microsoft and IBM, Multimedia Programming Interface and Data Specifications 1.0,
-- WAVE form, PCM; Microsoft, WAVEFORMATEXTENSIBLE).
use Rattle.std.specs.Prelude.{ℕ, ◌+◌, ◌-◌, ◌*◌, ◌/◌, ◌%◌, ◌^◌, ◌<◌, Bool, ◌==◌, ◌||◌, nat_lt, if◌then◌else◌}
use Rattle.wave_core.specs.Contents.{WaveSpec}

-- the format chunk has its second form, WAVE_FORMAT_EXTENSIBLE: for samples of 24 bits, or more than two channels
abbrev pub is_extensible : ℕ → ℕ → Bool
is_extensible channels width = width == 24 || nat_lt 2 channels

-- the bytes of the format chunk's data
abbrev pub format_size : ℕ → ℕ → ℕ
format_size channels width = if is_extensible channels width then 40 else 16

-- the bytes before the samples: the header of the RIFF chunk and its type, the format chunk, the header of the data
-- chunk
abbrev pub header_size : ℕ → ℕ → ℕ
header_size channels width = 28 + format_size channels width

-- the bytes of a frame: one sample of each channel
abbrev pub block_align : ℕ → ℕ → ℕ
block_align channels width = channels * (width / 8)

-- the bytes of the samples of n frames
abbrev pub data_size : ℕ → ℕ → ℕ → ℕ
data_size channels width frames = frames * block_align channels width

-- the bytes after the samples, which make odd data even
abbrev pub pad_size : ℕ → ℕ → ℕ → ℕ
pad_size channels width frames = data_size channels width frames % 2

-- the size of the RIFF chunk: the file without the 8 bytes of its own header
abbrev pub riff_size : ℕ → ℕ → ℕ → ℕ
riff_size channels width frames = header_size channels width - 8 + data_size channels width frames + pad_size channels width frames

-- the size of the RIFF chunk of a file with this description
abbrev pub riff_size_of : WaveSpec → ℕ → ℕ
riff_size_of s frames = riff_size s.channels s.width frames

-- the bytes of the whole file
abbrev pub file_size : ℕ → ℕ → ℕ → ℕ
file_size channels width frames = header_size channels width + data_size channels width frames + pad_size channels width frames

-- the RIFF chunk's size can be written in 32 bits
abbrev pub FitsRiff : ℕ → ℕ → ℕ → Type 0
FitsRiff channels width frames = riff_size channels width frames < 2 ^ 32
