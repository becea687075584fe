-- How the header of a WAVE file is written: with a channel mask, and with room for sizes of 64 bits (RF64, EBU Tech 3306).
use Rattle.std.specs.Prelude.{◌≡◌, ℕ, ◌+◌, ◌-◌, ◌^◌, ◌<◌, Bool, List, ◌++◌, codes, false, nat_lt, if◌then◌else◌, Option, Some, None, replicate}
use Rattle.std.specs.List.{flat_map}
use Rattle.chunk_core.specs.declared.numbers.Order.TheVariants.{Little}
use Rattle.chunk_core.specs.Numbers.{bytes_of}
use Rattle.wave_core.specs.Contents.{Pcm, WaveSpec}
use Rattle.wave_core.specs.Sizes.{data_size, header_size, pad_size}
use Rattle.wave_core.specs.Texts.{data_head, masked_format, masked_header, pad_bytes, pcm_frames, riff_head, sample_bytes}
use Rattle.wave_core.specs.declared.head.WaveHead.{WaveHead}

-- a header with room for sizes of 64 bits, or without it, and with a channel mask
abbrev pub head_of : Bool → ℕ → WaveHead
head_of is_wide mask = record { is_wide = is_wide; mask = mask }

-- RIFF WAVE without loudspeakers
abbrev pub plain : WaveHead
plain = head_of false 0

-- the bytes before the samples: 36 more with room for sizes of 64 bits
abbrev pub header_size_in : WaveHead → ℕ → ℕ → ℕ
header_size_in head channels width = if head.is_wide then 36 + header_size channels width else header_size channels width

-- the size of the RIFF chunk: the file without the 8 bytes of its own header
abbrev pub size_in : WaveHead → ℕ → ℕ → ℕ → ℕ
size_in head channels width frames = header_size_in head channels width - 8 + data_size channels width frames + pad_size channels width frames

-- the bytes of the whole file
abbrev pub file_size_in : WaveHead → ℕ → ℕ → ℕ → ℕ
file_size_in head channels width frames = header_size_in head channels width + data_size channels width frames + pad_size channels width frames

-- the least size that the RIFF chunk can't have: it is written in 32 bits or in 64
abbrev pub limit_of : WaveHead → ℕ
limit_of head = if head.is_wide then 2 ^ 64 else 2 ^ 32

-- the RIFF chunk's size can be written
abbrev pub FitsIn : WaveHead → ℕ → ℕ → ℕ → Type 0
FitsIn head channels width frames = size_in head channels width frames < limit_of head

-- a chunk of 28 bytes that readers ignore
abbrev pub room : List ℕ
room = codes "JUNK" ++ (bytes_of Little 4 28 ++ replicate 28 0)

-- the chunk of the same size with sizes of 64 bits: of the RIFF chunk, of the data, the number of frames; and no table
abbrev pub ds64 : ℕ → ℕ → ℕ → List ℕ
ds64 riff_bytes sound_bytes frames =
    codes "ds64" ++ (bytes_of Little 4 28 ++ (bytes_of Little 8 riff_bytes ++ (bytes_of Little 8 sound_bytes ++ (bytes_of Little 8 frames ++ bytes_of Little 4 0))))

-- how a file with room begins: as RIFF if the size fits 32 bits, otherwise as RF64
abbrev pub wide_front : ℕ → ℕ → ℕ → List ℕ
wide_front riff_bytes sound_bytes frames =
    if nat_lt riff_bytes (2 ^ 32) then riff_head riff_bytes ++ room
    else codes "RF64" ++ (bytes_of Little 4 4294967295 ++ (codes "WAVE" ++ ds64 riff_bytes sound_bytes frames))

-- the size of the data that its chunk states: in RF64 the greatest number
abbrev pub stated_size : ℕ → ℕ → ℕ
stated_size riff_bytes sound_bytes = if nat_lt riff_bytes (2 ^ 32) then sound_bytes else 4294967295

-- the size of the RIFF chunk of a file with room
abbrev pub wide_size : ℕ → ℕ → ℕ → ℕ
wide_size channels width frames = 36 + header_size channels width - 8 + data_size channels width frames + pad_size channels width frames

-- all bytes before the samples of n frames, with room, and the two sizes and a description in them
abbrev pub wide_head_of : ℕ → WaveSpec → ℕ → ℕ → ℕ → List ℕ
wide_head_of mask s riff_bytes sound_bytes frames =
    wide_front riff_bytes sound_bytes frames ++ (masked_format mask s.channels s.rate s.width ++ data_head (stated_size riff_bytes sound_bytes))

-- all bytes before the samples of n frames, with room for sizes of 64 bits
unfoldable pub wide_header : ℕ → ℕ → ℕ → ℕ → ℕ → List ℕ
wide_header mask channels rate width frames =
    wide_front (wide_size channels width frames) (data_size channels width frames) frames
    ++ (masked_format mask channels rate width ++ data_head (stated_size (wide_size channels width frames) (data_size channels width frames)))

-- all bytes before the samples of n frames
abbrev pub header_in : WaveHead → ℕ → ℕ → ℕ → ℕ → List ℕ
header_in head channels rate width frames =
    if head.is_wide then wide_header head.mask channels rate width frames else masked_header head.mask channels rate width frames

-- the file: the header, each sample, the pad; none if the RIFF chunk's size can't be written
abbrev pub text_in : WaveHead → Pcm → Option (List ℕ)
text_in head p =
    if nat_lt (size_in head p.channels p.width (pcm_frames p)) (limit_of head)
    then Some (header_in head p.channels p.rate p.width (pcm_frames p) ++ (flat_map (sample_bytes p.width) p.samples ++ pad_bytes p.channels p.width (pcm_frames p)))
    else None
