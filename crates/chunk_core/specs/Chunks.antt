-- Which bytes are chunks, and how chunks are written (DSDIFF 1.5, local chunks, after EA IFF 85).
use Rattle.std.specs.Prelude.{◌≡◌, ◌<◌, ℕ, ◌+◌, ◌%◌, ◌^◌, ◌⊎◌, List, [], ◌∷◌, ◌++◌, length, take, drop, replicate}
use Rattle.byteorder.specs.Endian.{big_number, big_bytes}

-- a chunk without its place: the bytes of its ID, and its data
pub record Chunk : Type 0 where
  pub id : List ℕ
  pub content : List ℕ

-- the 12 bytes of a chunk's header: four of ID, and eight that are the size of its data, the highest byte first
pub record IsHead (head : List ℕ) (c : Chunk) : Type 0 where
  pub long : length head ≡ 12
  pub id : take 4 head ≡ c.id
  pub size : big_number 8 (drop 4 head) ≡ length c.content

-- The bytes are these chunks: no bytes and no chunk; or a header, its data, a byte of any value if their number is odd,
-- and bytes that are the other chunks; or a header and odd data that end the bytes, and no other chunk.
abbrev pub chunks : List ℕ → List Chunk → Type 0
chunks bytes [] = bytes ≡ []
chunks bytes (c ∷ cs) =
    ((head pad rest : List ℕ) × IsHead head c × (length pad ≡ length c.content % 2) × (bytes ≡ head ++ (c.content ++ (pad ++ rest))) × chunks rest cs)
    ⊎ ((head : List ℕ) × IsHead head c × (length c.content % 2 ≡ 1) × (bytes ≡ head ++ c.content) × (cs ≡ []))

-- the number of bytes that a chunk takes, with its pad
abbrev pub width : Chunk → ℕ
width c = 12 + length c.content + length c.content % 2

-- an ID, the size of the data, the data, and a pad of zero if the size is odd
abbrev pub spelled : List ℕ → List ℕ → List ℕ
spelled id content = id ++ big_bytes 8 (length content) ++ content ++ replicate (length content % 2) 0

-- the bytes of a chunk as it is written
abbrev pub spell : Chunk → List ℕ
spell c = spelled c.id c.content

-- a chunk that can be written: an ID of four bytes, and data whose size fits eight bytes
pub record CanBeWritten (c : Chunk) : Type 0 where
  pub id : length c.id ≡ 4
  pub size : length c.content < 2 ^ 64
