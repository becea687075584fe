-- The marks of an edited master (DSDIFF 1.5, marker chunk).
use Rattle.std.specs.Prelude.{◌≤◌, ℕ, ◌+◌, List, length, take, drop, slice_index}
use Rattle.std.specs.Int.{w32, cast_signed}
use Rattle.byteorder.specs.Endian.{big_number}
use Rattle.chunk_core.specs.Chunks.{Chunk}
use Rattle.dsd_bits.specs.Contents.{MarkContent}

-- the number of bytes of text that a mark states
abbrev pub text_size : List ℕ → ℕ
text_size bytes = big_number 4 (drop 18 bytes)

-- the chunk holds the 22 bytes of a mark's fixed fields, and the text whose length they state
pub record IsWholeMark (c : Chunk) : Type 0 where
  pub fields : 22 ≤ length c.content
  pub text : 22 + text_size c.content ≤ length c.content

-- the mark in some bytes, each field at its place; the offset is read as two's complement
abbrev pub mark_of_bytes : List ℕ → MarkContent
mark_of_bytes bytes = record {
  hours = big_number 2 bytes;
  minutes = slice_index bytes 2;
  seconds = slice_index bytes 3;
  samples = big_number 4 (drop 4 bytes);
  offset = cast_signed w32 (big_number 4 (drop 8 bytes));
  kind = big_number 2 (drop 12 bytes);
  channel = big_number 2 (drop 14 bytes);
  flags = big_number 2 (drop 16 bytes);
  text = take (text_size bytes) (drop 22 bytes);
}

-- the mark in a chunk
abbrev pub mark_in : Chunk → MarkContent
mark_in c = mark_of_bytes c.content
