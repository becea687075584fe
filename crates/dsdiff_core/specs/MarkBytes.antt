-- The bytes of a mark (DSDIFF 1.5, marker chunk).
use Rattle.std.specs.Prelude.{ℕ, List, [], ◌∷◌, ◌++◌, length}
use Rattle.std.specs.Int.{w32, cast_unsigned}
use Rattle.byteorder.specs.Endian.{big_bytes}
use Rattle.dsd_bits.specs.Contents.{MarkContent}

-- the fixed fields of a mark in 22 bytes, the offset as two's complement, and the text, whose length is the last field
abbrev pub mark_bytes : MarkContent → List ℕ
mark_bytes m = big_bytes 2 m.hours ++ m.minutes ∷ m.seconds ∷ [] ++ big_bytes 4 m.samples ++ big_bytes 4 (cast_unsigned w32 m.offset) ++ big_bytes 2 m.kind ++ big_bytes 2 m.channel ++ big_bytes 2 m.flags ++ big_bytes 4 (length m.text) ++ m.text
