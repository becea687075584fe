-- Bounds of numbers.
use Rattle.std.specs.Prelude.{ℕ, ◌*◌, ◌^◌, ◌≤◌, IsTrue}
use Rattle.heard_core.specs.declared.bounds.Bounds.{Bounds}

-- a number is within bounds that are known
pub record LiesWithin (b : Bounds) (n : ℕ) : Type 0 where
  pub at_least : b.low * 2 ^ b.shift ≤ n
  pub at_most : n ≤ b.high * 2 ^ b.shift

-- a number is within bounds, if they are known
abbrev pub IsWithin : Bounds → ℕ → Type 0
IsWithin b n = IsTrue b.are_known → LiesWithin b n
