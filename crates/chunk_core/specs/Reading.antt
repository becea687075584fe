-- The chunks of bytes one by one, or the first fault.
use Rattle.std.specs.Prelude.{ℕ, zero, suc, ◌+◌, ◌-◌, List, [], ◌∷◌, length, take, drop, slice_range, Result, Ok, Err, nat_lt, ◌==◌, if◌then◌else◌}
use Rattle.byteorder.specs.Endian.{big_number}
use Rattle.chunk_core.specs.declared.layout.Span.{Span}
use Rattle.chunk_core.specs.declared.fault.ChunkFault.{ChunkFault}
use Rattle.chunk_core.specs.declared.fault.ChunkFault.TheVariants.{HeadCut, DataCut}
use Rattle.chunk_core.specs.Chunks.{Chunk, width}
use Rattle.chunk_core.specs.Places.{places}
use Rattle.chunk_core.specs.Steps.{◌>>=◌}

-- the size in the header at the start of some bytes
abbrev pub size_of : List ℕ → ℕ
size_of bytes = big_number 8 (drop 4 bytes)

-- the chunk of this ID and size at the start of some bytes
abbrev pub chunk_of : List ℕ → ℕ → List ℕ → Chunk
chunk_of id size bytes = record { id = id; content = take size (drop 12 bytes) }

-- the first chunk of bytes that lie at a given place
unfoldable pub first_of : ℕ → List ℕ → Result Chunk ChunkFault
first_of at bytes =
    if nat_lt (length bytes) 12 then Err (HeadCut at)
    else if nat_lt (length bytes - 12) (size_of bytes) then Err (DataCut at (take 4 bytes) (size_of bytes))
    else Ok (record { id = take 4 bytes; content = take (size_of bytes) (drop 12 bytes) })

-- the chunks of bytes that lie at a given place, in at most n steps
unfoldable pub walk_for : ℕ → ℕ → List ℕ → Result (List Chunk) ChunkFault
walk_for zero at bytes = Ok []
walk_for (suc steps) at bytes = if length bytes == 0 then Ok [] else do
  c ← first_of at bytes
  cs ← walk_for steps (at + width c) (drop (width c) bytes)
  Ok (c ∷ cs)

-- the chunks of bytes that lie at a given place: there are no more of them than bytes
unfoldable pub walk_of : ℕ → List ℕ → Result (List Chunk) ChunkFault
walk_of at bytes = walk_for (length bytes) at bytes

-- the spans of the chunks of bytes that lie at a given place
abbrev pub spans_at : ℕ → List ℕ → Result (List Span) ChunkFault
spans_at at bytes = walk_of at bytes >>= λ cs. Ok (places at cs)

-- the spans of the chunks of a range
unfoldable pub spans_in : List ℕ → ℕ → ℕ → Result (List Span) ChunkFault
spans_in bytes start stop = spans_at start (slice_range bytes start stop)
