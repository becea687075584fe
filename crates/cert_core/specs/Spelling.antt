-- How a certificate of either version spells a row (`docs/CERTIFICATES.md`; frame of reference coding).
use Rattle.std.specs.Prelude.{◌≡◌, ℕ, zero, suc, ◌+◌, ◌*◌, ◌-◌, ◌^◌, ◌<◌, ◌≤◌, ◌⊎◌, min, max, leb, List, [], ◌∷◌, ◌++◌, length, map, fold, count_by, flat_map, slice_index_or}
use Rattle.std.specs.Int.{w64, to_be_bytes, bytes_high_first}
use Rattle.cert_core.specs.declared.version.Version.{Version}
use Rattle.cert_core.specs.declared.version.Version.TheVariants.{One, Two}

-- the number of a version, as a head has it
abbrev pub version_number : Version → ℕ
version_number One = 1
version_number Two = 2

-- the version of a number
abbrev pub version_of : ℕ → Version
version_of (suc (suc zero)) = Two
version_of _ = One

-- the least value of a row
abbrev pub floor : List ℕ → ℕ
floor [] = 0
floor (v ∷ row) = fold min v row

-- the greatest value of a row
abbrev pub peak : List ℕ → ℕ
peak [] = 0
peak (v ∷ row) = fold max v row

-- how many bytes a number needs, up to eight: as many as there are of 1, 256, 256 ^ 2, … up to it
abbrev pub byte_width : ℕ → ℕ
byte_width v = count_by (λ step. leb step v) (1 ∷ 256 ∷ 256 ^ 2 ∷ 256 ^ 3 ∷ 256 ^ 4 ∷ 256 ^ 5 ∷ 256 ^ 6 ∷ 256 ^ 7 ∷ [])

-- by how much each value of a row exceeds the least
abbrev pub excesses : List ℕ → List ℕ
excesses row = map (λ v. v - floor row) row

-- how many bytes the greatest excess of a row needs
abbrev pub row_width : List ℕ → ℕ
row_width row = byte_width (peak row - floor row)

-- a number in eight bytes, a width in one, and then numbers of that many bytes each
abbrev pub raised_text : ℕ → ℕ → List ℕ → List ℕ
raised_text least width over = to_be_bytes w64 least ++ (width ∷ flat_map (bytes_high_first width) over)

-- a row: by the first version its values, eight bytes each; by the second its least value, its width, and its excesses
-- in as many bytes each
abbrev pub row_text : Version → List ℕ → List ℕ
row_text One row = flat_map (to_be_bytes w64) row
row_text Two row = raised_text (floor row) (row_width row) (excesses row)

-- the bytes hold a row of m values and then the rest, in the form of a version: by the second a number and what each
-- value exceeds it by, in some width
abbrev pub HoldsRow : Version → ℕ → List ℕ → List ℕ → List ℕ → Type 0
HoldsRow One m bytes row rest = (bytes ≡ row_text One row ++ rest) × (length row ≡ m) × ((q : ℕ) → slice_index_or row q 0 < 2 ^ 64)
HoldsRow Two m bytes row rest = (least : ℕ) × (width : ℕ) × (over : List ℕ) × (bytes ≡ raised_text least width over ++ rest) × (length over ≡ m)
    × (least < 2 ^ 64) × (width ≤ 8) × ((q : ℕ) → slice_index_or over q 0 < 256 ^ width) × (row ≡ map (λ v. least + v) over)

-- the bytes end before a row of m values does
abbrev pub IsCutRow : Version → ℕ → List ℕ → Type 0
IsCutRow One m bytes = length bytes < 8 * m
IsCutRow Two m bytes = (length bytes < 9)
    ⊎ ((prefix : List ℕ) × (width : ℕ) × (after : List ℕ) × (bytes ≡ prefix ++ (width ∷ after)) × (length prefix ≡ 8) × (width ≤ 8) × (length after < width * m))

-- the bytes begin with a row whose width is above eight
abbrev pub IsTooWide : Version → List ℕ → Type 0
IsTooWide One bytes = ⊥
IsTooWide Two bytes = (prefix : List ℕ) × (width : ℕ) × (after : List ℕ) × (bytes ≡ prefix ++ (width ∷ after)) × (length prefix ≡ 8) × (8 < width)

-- by how much the values of a row exceed another number, each in `width` bytes
abbrev pub excess_text : ℕ → ℕ → List ℕ → List ℕ
excess_text width least row = flat_map (bytes_high_first width) (map (λ v. v - least) row)
