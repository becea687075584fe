-- Bytes read from any bit on.
use Rattle.std.specs.Prelude.{ℕ, ◌+◌, ◌-◌, ◌*◌, ◌/◌, ◌%◌, ◌^◌, List, map, slice_index}
use Rattle.std.specs.List.{range_with_len}

-- the 8 bits from `shift` on of two neighbouring bytes
abbrev pub byte_across : ℕ → ℕ → ℕ → ℕ
byte_across high low shift = (high * 256 + low) / 2 ^ (8 - shift) % 256

-- the 8 bits from bit `at` on as a byte; past the end the bits are zero
abbrev pub byte_from : List ℕ → ℕ → ℕ
byte_from bytes at = byte_across (slice_index bytes (at / 8)) (slice_index bytes (at / 8 + 1)) (at % 8)

-- n bytes of the bits from bit `at` on
abbrev pub bytes_from : List ℕ → ℕ → ℕ → List ℕ
bytes_from bytes at size = map (λ k. byte_from bytes (at + 8 * k)) (range_with_len 0 size)
