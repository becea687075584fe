-- Tables of bounds that show that bits are least (weak duality of shortest paths).
use Rattle.std.specs.Prelude.{◌≡◌, ℕ, ◌+◌, ◌^◌, ◌<◌, ◌≤◌, min, Bool, List, length}
use Rattle.cost_core.specs.Trellis.{Trellis, states, next, cost}
use Rattle.cost_core.specs.Bridges.{Bridging, IsLeastBridge}
use Rattle.cost_core.specs.StateCosts.{trellis_of}
use Rattle.cost_core.specs.Limits.{IsBridging}

-- forward bounds: no walk from the start reaches a state for less than its bound, each end costs c at least, and c is
-- the cost of x
pub record IsValid (t : Trellis) (bound : ℕ → ℕ → ℕ) (c : ℕ) (x : List Bool) : Type 0 where
  pub bounded : (level q : ℕ) → level ≤ t.levels → q < states t → bound level q ≤ 2 ^ 63
  pub at_start : bound 0 t.start ≡ 0
  pub at_step : (level q : ℕ) (bit : Bool) → level < t.levels → q < states t → bound (level + 1) (next t.width q bit) ≤ bound level q + t.step level q bit
  pub at_end : (q : ℕ) → q < states t → c ≤ bound t.levels q + t.tail q
  pub is_cost : c ≡ cost t x

-- law: the bits of a bridge for which a table is valid are least
abbrev pub LeastFromValid : Type 0
LeastFromValid =
    (d : Bridging) (bound : ℕ → ℕ → ℕ) (c : ℕ) (x : List Bool) → IsBridging d → length x ≡ d.levels → IsValid (trellis_of d) bound c x → IsLeastBridge d x

-- law: a valid table stays valid if each bound above c becomes c
abbrev pub CappedIsValid : Type 0
CappedIsValid =
    (t : Trellis) (bound : ℕ → ℕ → ℕ) (c : ℕ) (x : List Bool) → IsValid t bound c x → IsValid t (λ level q. min (bound level q) c) c x
