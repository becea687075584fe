-- The fields of the form and of the sound property's chunks (DSDIFF 1.5).
use Rattle.std.specs.Prelude.{ℕ, ◌+◌, ◌*◌, min, List, length, map, take, drop}
use Rattle.std.specs.List.{range_with_len}
use Rattle.byteorder.specs.Endian.{big_number}

-- the size of the form: its type and its chunks with their pads
abbrev pub form_size : List ℕ → ℕ
form_size file = big_number 8 (drop 4 file)

-- where the form ends: its last pad may be missing
abbrev pub form_end : List ℕ → ℕ
form_end file = min (12 + form_size file) (length file)

-- n IDs of four bytes, one after the other
abbrev pub ids_in : ℕ → List ℕ → List (List ℕ)
ids_in number bytes = map (λ k. take 4 (drop (4 * k) bytes)) (range_with_len 0 number)
