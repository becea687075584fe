-- How a decoder's taps are divided into parts that tables can sum, and what the sums at places eight apart are.
use Rattle.std.specs.Prelude.{ℕ, ◌+◌, ◌-◌, ◌*◌, ◌/◌, ◌%◌, ℤ, pos, Bool, List, ◌++◌, length, map, take, drop, replicate}
use Rattle.std.specs.List.{range_with_len}
use Rattle.std.specs.Int.{div_ceil}
use Rattle.fir_core.specs.Convolution.{conv}
use Rattle.fir_core.specs.Decimator.{decimator}
use Rattle.fir_core.specs.Windows.{aligned}
use Rattle.heard_core.specs.declared.piece.Piece.{Piece}

-- taps with zeros after them, up to whole groups of eight
abbrev pub padded : List ℤ → List ℤ
padded taps = taps ++ replicate (8 * div_ceil (length taps) 8 - length taps) (pos 0)

-- part p of some taps: each part has 4096 of them, and the last has what is left
abbrev pub part : List ℤ → ℕ → List ℤ
part taps p = take 4096 (drop (4096 * p) taps)

-- piece k: part k / 8 with its tables for the places that are bit k % 8 of their bytes
abbrev pub piece : List ℤ → ℕ → Piece
piece taps k = record {
  taps = decimator (part taps (k / 8)) 8 (k % 8) 0 24;
  tables = aligned (part taps (k / 8)) (k % 8);
}

-- all pieces of a decoder's taps: each part for each bit of a byte
abbrev pub all_pieces : List ℤ → List Piece
all_pieces taps = map (piece (padded taps)) (range_with_len 0 (8 * div_ceil (length taps) 4096))

-- n sums at places eight apart, the first at this place
abbrev pub sums_at : List ℤ → List Bool → ℕ → ℕ → List ℤ
sums_at taps bits place number = map (λ i. conv taps bits (i * 8 + place)) (range_with_len 0 number)

-- the same by the parts before part p alone
abbrev pub sums_before : List ℤ → ℕ → List Bool → ℕ → ℕ → List ℤ
sums_before taps p bits place number = sums_at (take (4096 * p) (padded taps)) bits place number
