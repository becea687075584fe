-- Numbers as bytes, in either order, and IDs (DSDIFF 1.5: the highest byte first; DSF 1.01: the lowest).
use Rattle.std.specs.Prelude.{ℕ, List, take, drop}
use Rattle.byteorder.specs.Endian.{big_number, little_number, big_bytes, little_bytes}
use Rattle.chunk_core.specs.declared.numbers.Order.{Order}
use Rattle.chunk_core.specs.declared.numbers.Order.TheVariants.{Big, Little}

-- the number in the first n bytes
abbrev pub number_of : Order → ℕ → List ℕ → ℕ
number_of Big n bytes = big_number n bytes
number_of Little n bytes = little_number n bytes

-- the number in the n bytes at a place
abbrev pub number_at : Order → ℕ → List ℕ → ℕ → ℕ
number_at order n bytes at = number_of order n (drop at bytes)

-- the lowest n bytes of a number
abbrev pub bytes_of : Order → ℕ → ℕ → List ℕ
bytes_of Big n value = big_bytes n value
bytes_of Little n value = little_bytes n value

-- the ID at a place
abbrev pub id_at : List ℕ → ℕ → List ℕ
id_at bytes at = take 4 (drop at bytes)
