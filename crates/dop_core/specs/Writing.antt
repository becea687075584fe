-- The text of a WAVE file of DoP samples (DoP open standard 1.1): 24-bit samples at a sixteenth of the recording's rate.
use Rattle.std.specs.Prelude.{ℕ, ◌+◌, ◌/◌, ◌%◌, ◌^◌, ◌<◌, Bool, List, [], ◌++◌, length, nat_eq, if◌then◌else◌}
use Rattle.std.specs.Int.{div_ceil}
use Rattle.chunk_core.specs.declared.numbers.Order.TheVariants.{Little}
use Rattle.chunk_core.specs.Numbers.{bytes_of}
use Rattle.dsd_bits.specs.Channels.{count_of}
use Rattle.native_core.specs.Native.{native}
use Rattle.native_core.specs.declared.layout.Layout.TheVariants.{Dop}
use Rattle.wave_core.specs.Sizes.{data_size, file_size, riff_size}
use Rattle.wave_core.specs.Texts.{data_head, format_chunk, pad_bytes, riff_head}
use Rattle.dop_core.specs.Fields.{COUNT}

-- how many frames channels of `count` bits have
abbrev pub frames_of : ℕ → ℕ
frames_of count = div_ceil count 16

-- the size of the chunk that says how many bits there are, if they don't fill the last frame
abbrev pub count_size : ℕ → ℕ
count_size count = if nat_eq (count % 16) 0 then 0 else 16

-- that chunk
abbrev pub count_chunk : ℕ → List ℕ
count_chunk count = if nat_eq (count % 16) 0 then [] else COUNT ++ (bytes_of Little 4 8 ++ bytes_of Little 8 count)

-- the size of the RIFF chunk
abbrev pub dop_riff_size : ℕ → ℕ → ℕ
dop_riff_size channels count = riff_size channels 24 (frames_of count) + count_size count

-- the RIFF chunk's size can be written in 32 bits
abbrev pub FitsDop : ℕ → ℕ → Type 0
FitsDop channels count = dop_riff_size channels count < 2 ^ 32

-- the bytes of the whole file
abbrev pub dop_file_size : ℕ → ℕ → ℕ
dop_file_size channels count = file_size channels 24 (frames_of count) + count_size count

-- all bytes before the samples
abbrev pub dop_head : ℕ → ℕ → ℕ → List ℕ
dop_head rate channels count =
    riff_head (dop_riff_size channels count) ++ (format_chunk channels (rate / 16) 24 ++ data_head (data_size channels 24 (frames_of count)))

-- all bytes after them: the pad, and the chunk
abbrev pub dop_tail : ℕ → ℕ → List ℕ
dop_tail channels count = pad_bytes channels 24 (frames_of count) ++ count_chunk count

-- the file of channels at a rate: the bytes before the samples, the samples, the bytes after them
abbrev pub dop_text : ℕ → List (List Bool) → List ℕ
dop_text rate channels =
    dop_head rate (length channels) (count_of channels) ++ (native Dop channels ++ dop_tail (length channels) (count_of channels))
