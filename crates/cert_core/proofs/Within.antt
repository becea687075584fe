-- Rows that exceed nothing, eight states at a time.
use Rattle.std.proofs.Common.{◌≡◌, ℕ, ◌+◌, ◌*◌, ◌/◌, ◌<◌, ◌≤◌, List, take, drop, length, get_or, sym, ap, ◌∙◌, inl, inr, arith}
use Rattle.cost_core.specs.Trellis.{Trellis, states, newest, before_by_1, IsBounded}
use Rattle.cost_core.specs.Bridges.{Bridging}
use Rattle.cost_core.specs.StateCosts.{step_of, step_row, trellis_of}
use Rattle.cost_core.specs.Rows.{sums}
use Rattle.cost_core.proofs.Lanes.{length-sums}
use Rattle.cost_core.proofs.Chunks.{at_sums}
use Rattle.cost_core.proofs.StepRows.{high_is}
use Rattle.cost_core.proofs.WayLaws.{high_sum, low_sum}
use Rattle.cert_core.specs.Reasons.{Exceeds}
use Rattle.cert_core.specs.Within.{WithinBoth}
use Rattle.cert_core.proofs.Marks.{marked, none_over, lane}
use Rattle.cert_core.proofs.Steps.{one_exceeds}

-- where no lane is marked, no value is above the sum of its way
pub none_above : (row xs ys : List ℕ) → length row ≡ 8 → length xs ≡ 8 → length ys ≡ 8 → marked row (sums xs ys) ≡ 0 → (k : ℕ) → k < 8 → get_or row k 0 ≤ get_or xs k 0 + get_or ys k 0
none_above row xs ys lr lx ly e k h =
    let lb : length (sums xs ys) ≡ 8 = length-sums xs ys (lx ∙ sym ly) ∙ lx in
    omega (arith, none_over row (sums xs ys) lr lb e k h, at_sums xs ys k (omega arith) (omega arith))

-- from eight lanes to the rows that they are of
pub eight_within : (j : ℕ) (x y r x8 y8 r8 : List ℕ) → x8 ≡ take 8 (drop (8 * j) x) → y8 ≡ take 8 (drop (8 * j) y) → r8 ≡ take 8 (drop (8 * j) r)
    → ((k : ℕ) → k < 8 → get_or r8 k 0 ≤ get_or x8 k 0) → ((k : ℕ) → k < 8 → get_or r8 k 0 ≤ get_or y8 k 0)
    → (m : ℕ) → m < 8 → (get_or r (8 * j + m) 0 ≤ get_or x (8 * j + m) 0) × (get_or r (8 * j + m) 0 ≤ get_or y (8 * j + m) 0)
eight_within j x y r x8 y8 r8 ex ey er low high m h = (
  omega (arith, low m h, lane j m x8 x ex h, lane j m r8 r er h),
  omega (arith, high m h, lane j m y8 y ey h, lane j m r8 r er h),
)

module _ (d : Bridging) (i n : ℕ) (previous row steps : List ℕ) (fine : IsBounded (trellis_of d)) (hi : i < d.levels) (en : n ≡ states (trellis_of d)) (el : length previous ≡ n) (es : steps ≡ step_row d i) where
  abbrev t : Trellis
  t = trellis_of d

  pub none_exceeds : WithinBoth (length previous) previous (take n steps) (drop n steps) row → (q : ℕ) → q < states t → Exceeds t i previous row q → ⊥
  none_exceeds within q h x =
      let hq : q < n = omega arith in
      let w = within q (omega (arith, el)) in
      elim (one_exceeds t fine.some_state i previous row q h x) [
        | inl lt ↦ absurd (omega (arith, w.0, lt, low_sum d i n previous steps fine hi en el es q hq))
        | inr lt ↦
            let e : get_or previous (before_by_1 t.width q) 0 + step_of d i (before_by_1 t.width q) (newest q) ≡ get_or previous (q / 2 + n / 2) 0 + step_of d i (q / 2 + n / 2) (newest q) =
            ap (λ p. get_or previous p 0 + step_of d i p (newest q)) (sym (high_is t fine.some_state q n en)) in
            absurd (omega (arith, w.1, lt, e, high_sum d i n previous steps fine hi en el es q hq))
      ]
