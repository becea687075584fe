-- Bytes with their bits in the other order.
use Rattle.std.specs.Prelude.{◌≡◌, ℕ, ◌+◌, ◌-◌, ◌*◌, ◌<◌, List, length, slice_index}
use Rattle.std.specs.Int.{bit_at}

-- the byte whose bits are those of b in the other order
abbrev pub reversed : ℕ → ℕ
reversed b = bit_at b 0 * 128 + bit_at b 1 * 64 + bit_at b 2 * 32 + bit_at b 3 * 16 + bit_at b 4 * 8 + bit_at b 5 * 4 + bit_at b 6 * 2 + bit_at b 7 * 1

-- bit i of the new byte is bit 7 - i of the old one
pub record IsReversed (old new : ℕ) : Type 0 where
  pub at : (i : ℕ) → i < 8 → bit_at new i ≡ bit_at old (7 - i)

-- each byte is reversed in place
pub record AreReversed (old new : List ℕ) : Type 0 where
  pub size : length new ≡ length old
  pub at : (k : ℕ) → k < length old → IsReversed (slice_index old k) (slice_index new k)
