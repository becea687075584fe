-- The bytes of the DSF 1.01 file that holds a recording.
use Rattle.std.specs.Prelude.{ℕ, ◌+◌, List, ◌++◌, length, nat_eq, if◌then◌else◌}
use Rattle.byteorder.specs.Endian.{little_bytes}
use Rattle.dsd_bits.specs.declared.blocks.BitOrder.{BitOrder}
use Rattle.dsd_bits.specs.Blocks.{blocked, blocks_size}
use Rattle.dsd_bits.specs.Contents.{Content, Described, described}
use Rattle.dsd_bits.specs.Ids.{DSD}
use Rattle.dsd_bits.specs.Limits.{block_bytes}
use Rattle.dsf_core.specs.Fields.{FMT, DATA}
use Rattle.dsf_core.specs.Files.{sample_bits}

-- the number of sound bytes
abbrev pub recording_size : Described → ℕ
recording_size d = blocks_size (length d.ids) d.count

-- the place of the tag: after the sound, or 0 for none
abbrev pub tag_place : Described → ℕ
tag_place d = if nat_eq (length d.tag) 0 then 0 else 92 + recording_size d

-- the first chunk: its size, that of the file, and the place of the tag
abbrev pub first_text : ℕ → ℕ → List ℕ
first_text total pointer = DSD ++ (little_bytes 8 28 ++ (little_bytes 8 total ++ little_bytes 8 pointer))

-- the format chunk: its size, version 1, raw sound, the layout, the channel number, the rate, the bits per sample, the
-- count, the block size, and four reserved bytes
abbrev pub format_text : ℕ → ℕ → ℕ → ℕ → ℕ → List ℕ
format_text layout number rate bits count =
    FMT ++ (little_bytes 8 52 ++ (little_bytes 4 1 ++ (little_bytes 4 0
    ++ (little_bytes 4 layout ++ (little_bytes 4 number ++ (little_bytes 4 rate ++ (little_bytes 4 bits ++ (little_bytes 8 count
    ++ (little_bytes 4 block_bytes ++ little_bytes 4 0)))))))))

-- the header of the data chunk: its size
abbrev pub data_text : ℕ → List ℕ
data_text size = DATA ++ little_bytes 8 size

-- the 92 bytes before the sound
abbrev pub head_text : Described → BitOrder → List ℕ
head_text d order =
    first_text (92 + recording_size d + length d.tag) (tag_place d)
    ++ (format_text d.layout (length d.ids) d.rate (sample_bits order) d.count ++ data_text (12 + recording_size d))

-- the whole file: the bytes before the sound, the sound and the tag
abbrev pub dsf_text : Content → BitOrder → List ℕ
dsf_text r order = head_text (described r) order ++ (blocked order r.channels ++ r.tag)
