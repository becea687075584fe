-- The chunks of a RIFF WAVE file and their fields (Microsoft and IBM, Multimedia Programming Interface and Data
-- Specifications 1.0; Microsoft, WAVEFORMATEXTENSIBLE). Numbers have the lowest byte first, and the size of a chunk does
-- not count the 8 bytes of its header.
use Rattle.std.specs.Prelude.{ℕ, zero, suc, ◌+◌, ◌*◌, ◌%◌, ◌&&◌, ◌||◌, not, Bool, List, [], ◌∷◌, codes, length, Option, None, Some, nat_eq, nat_lt, if◌then◌else◌}
use Rattle.chunk_core.specs.declared.numbers.Order.TheVariants.{Little}
use Rattle.chunk_core.specs.Numbers.{id_at, number_at}
use Rattle.dsd_bits.specs.Ids.{same_id}

-- the number of two bytes at a place
abbrev pub u16_at : List ℕ → ℕ → ℕ
u16_at file at = number_at Little 2 file at

-- the number of four bytes at a place
abbrev pub u32_at : List ℕ → ℕ → ℕ
u32_at file at = number_at Little 4 file at

-- the number of eight bytes at a place
abbrev pub u64_at : List ℕ → ℕ → ℕ
u64_at file at = number_at Little 8 file at

-- the ID of the chunk that is the whole file
abbrev pub RIFF : List ℕ
RIFF = codes "RIFF"

-- the type of the form
abbrev pub WAVE : List ℕ
WAVE = codes "WAVE"

-- the ID of the chunk that describes the samples
abbrev pub FMT : List ℕ
FMT = codes "fmt "

-- the ID of the chunk of samples
abbrev pub DATA : List ℕ
DATA = codes "data"

-- the ID of this project's chunk that says how many bits each channel has
abbrev pub COUNT : List ℕ
COUNT = codes "DoPn"

-- the size of the data of the chunk at a place
abbrev pub size_at : List ℕ → ℕ → ℕ
size_at file at = u32_at file (at + 4)

-- the place after the chunk at a place, with its pad
abbrev pub next_of : List ℕ → ℕ → ℕ
next_of file at = at + 8 + size_at file at + size_at file at % 2

-- the place of the first chunk with an ID from a place on, in at most n steps
unfoldable pub chunk_for : ℕ → List ℕ → List ℕ → ℕ → Option ℕ
chunk_for zero id file at = None
chunk_for (suc steps) id file at =
    if nat_lt (length file) (at + 8) then None
    else if same_id (id_at file at) id then Some at
    else chunk_for steps id file (next_of file at)

-- the place of the first chunk with an ID from a place on: there are no more chunks than bytes
abbrev pub chunk_from : List ℕ → List ℕ → ℕ → Option ℕ
chunk_from id file at = chunk_for (length file) id file at

-- the file begins as a WAVE file
unfoldable pub is_wave : List ℕ → Bool
is_wave file = not (nat_lt (length file) 12) && same_id (id_at file 0) RIFF && same_id (id_at file 8) WAVE

-- the format chunk at a place has the subformat of integer samples: 00000001-0000-0010-8000-00aa00389b71
unfoldable pub is_integer : List ℕ → ℕ → Bool
is_integer file f =
    same_id (id_at file (f + 32)) (1 ∷ 0 ∷ 0 ∷ 0 ∷ []) && same_id (id_at file (f + 36)) (0 ∷ 0 ∷ 16 ∷ 0 ∷ [])
    && same_id (id_at file (f + 40)) (128 ∷ 0 ∷ 0 ∷ 170 ∷ []) && same_id (id_at file (f + 44)) (0 ∷ 56 ∷ 155 ∷ 113 ∷ [])

-- the format chunk at a place, in its first form or in its second, says that the samples are integers: all their bits
-- are valid, and the second form has the subformat of integers
unfoldable pub has_integers : List ℕ → ℕ → Bool
has_integers file f =
    nat_eq (u16_at file (f + 8)) 1
    || (nat_eq (u16_at file (f + 8)) 65534 && not (nat_lt (size_at file f) 40) && nat_eq (u16_at file (f + 26)) 24 && is_integer file f)

-- the channels that a format chunk states
abbrev pub channel_number : List ℕ → ℕ → ℕ
channel_number file f = u16_at file (f + 10)

-- the frames per second that a format chunk states
abbrev pub frame_rate : List ℕ → ℕ → ℕ
frame_rate file f = u32_at file (f + 12)

-- the format chunk at a place says that the samples are integers of 24 bits, in frames of three bytes a channel
unfoldable pub is_pcm_24 : List ℕ → ℕ → Bool
is_pcm_24 file f =
    nat_eq (u16_at file (f + 22)) 24 && nat_eq (u16_at file (f + 20)) (3 * channel_number file f) && has_integers file f
