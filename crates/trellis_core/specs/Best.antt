-- Least sums of steps by level and state, and the way back through them (Viterbi 1967: survivors). Only the search's private functions cite this.
use Rattle.std.specs.Prelude.{ℕ, zero, suc, ◌+◌, ◌-◌, ◌^◌, ◌==◌, min, nat_lt, if◌then◌else◌, Bool, List, [], ◌∷◌, map}
use Rattle.std.specs.List.{range_with_len}
use Rattle.cost_core.specs.Trellis.{Trellis, states, newest, before_by_0, before_by_1}

-- the sum by way of the state before whose oldest bit is 0, from the sums of the level before
abbrev pub by_0 : Trellis → ℕ → (ℕ → ℕ) → ℕ → ℕ
by_0 t level sum q = sum (before_by_0 t.width q) + t.step level (before_by_0 t.width q) (newest q)

-- the sum by way of the state before whose oldest bit is 1, from the sums of the level before
abbrev pub by_1 : Trellis → ℕ → (ℕ → ℕ) → ℕ → ℕ
by_1 t level sum q = sum (before_by_1 t.width q) + t.step level (before_by_1 t.width q) (newest q)

-- the lesser of 2 ^ 63 and the least sum of steps from the start to a state, in n steps
unfoldable pub best : Trellis → ℕ → ℕ → ℕ
best t zero q = if q == t.start then 0 else 2 ^ 63
best t (suc level) q = min (2 ^ 63) (min (by_0 t level (best t level) q) (by_1 t level (best t level) q))

-- the least sums of a level, by state
unfoldable pub best_row : Trellis → ℕ → List ℕ
best_row t level = map (best t level) (range_with_len 0 (states t))

-- the least sums of n levels, from level 0 on
abbrev pub best_rows : Trellis → ℕ → List (List ℕ)
best_rows t n = map (best_row t) (range_with_len 0 n)

-- the state before a state of the next level, on the way back: on a tie the one whose oldest bit is 0
unfoldable pub before : Trellis → ℕ → ℕ → ℕ
before t level q = if nat_lt (by_1 t level (best t level) q) (by_0 t level (best t level) q) then before_by_1 t.width q else before_by_0 t.width q

-- the bits on the way back from a state of a level, the newest first
unfoldable pub traced : Trellis → ℕ → ℕ → List Bool
traced t zero q = []
traced t (suc level) q = newest q ∷ traced t level (before t level q)

-- the least cost of the bits that end in a state
abbrev pub total : Trellis → ℕ → ℕ
total t q = best t t.levels q + t.tail q

-- these costs by state
unfoldable pub total_row : Trellis → List ℕ
total_row t = map (total t) (range_with_len 0 (states t))

-- of the states whose bits except for the n oldest are those of q, the one of the least total: on a tie the one with 0 at the newest bit that differs
unfoldable pub final : Trellis → ℕ → ℕ → ℕ
final t zero q = q
final t (suc n) q =
    let a = final t n q in
    let b = final t n (q + 2 ^ (t.width - suc n)) in
    if nat_lt (total t b) (total t a) then b else a
