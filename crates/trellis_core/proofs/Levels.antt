-- A level's row and its decisions, as they are chosen over lists.
use Rattle.std.proofs.Common.{◌≡◌, ℕ, ◌+◌, ◌/◌, ◌^◌, ◌<◌, ◌≤◌, false, cond, ltb, min, List, take, drop, length, get_or, refl, sym, ap, ◌∙◌, inl, inr, arith}
use Rattle.std.proofs.lemmas.Bool.{cases_Bool, ltb-true, ltb-false}
use Rattle.std.proofs.lemmas.List.{ext_get_or}
use Rattle.std.proofs.lemmas.Simd.{length-zip2}
use Rattle.cost_core.specs.Trellis.{Trellis, states, newest, digit, IsBounded}
use Rattle.cost_core.specs.Bridges.{Bridging}
use Rattle.cost_core.specs.StateCosts.{step_of, step_row, trellis_of}
use Rattle.trellis_core.specs.Best.{by_0, by_1, best, best_row}
use Rattle.trellis_core.specs.Decisions.{decision}
use Rattle.cost_core.specs.Ways.{AreWays}
use Rattle.cost_core.specs.Rows.{seconds, least, twice, lower, upper}
use Rattle.trellis_core.proofs.Bests.{best_le}
use Rattle.trellis_core.proofs.Decisions.{cond_digit}
use Rattle.trellis_core.proofs.RowLaws.{row_length, row_at, best_from, sum_0, sum_1}
use Rattle.cost_core.proofs.WayLaws.{are_ways, high_long, high_sum, lens, low_long, low_sum}
use Rattle.cost_core.proofs.Chunks.{at_least, at_seconds, rows_long}

pub lesser : (x y : ℕ) → cond (ltb y x) y x ≡ min x y
lesser x y =
    elim (cases_Bool (ltb y x)) [
      | inl e ↦ let lt = ltb-true y x e in rw e (omega arith)
      | inr e ↦ let le = ltb-false y x e in rw e (omega arith)
    ]

module _ (d : Bridging) (i n : ℕ) (row steps : List ℕ) (fine : IsBounded (trellis_of d)) (hi : i < d.levels) (en : n ≡ states (trellis_of d)) (er : row ≡ best_row (trellis_of d) i) (es : steps ≡ step_row d i) where
  abbrev t : Trellis
  t = trellis_of d

  pub row_long : length row ≡ n
  row_long = ap length er ∙ row_length t i ∙ sym en

  abbrev lows : List ℕ
  lows = take n steps

  abbrev highs : List ℕ
  highs = drop n steps

  -- the two ways into a state
  module _ (q : ℕ) (hq : q < n) where
    inside : q < states t
    inside = omega arith

    low_way : get_or (lower row lows) q 0 ≡ by_0 t i (best t i) q
    low_way = low_sum d i n row steps fine hi en row_long es q hq ∙ sum_0 t fine i q n row en er inside (step_of d i (q / 2) (newest q)) refl

    high_way : get_or (upper row highs) q 0 ≡ by_1 t i (best t i) q
    high_way = high_sum d i n row steps fine hi en row_long es q hq ∙ sum_1 t fine i q n row en er inside (step_of d i (q / 2 + n / 2) (newest q)) refl

    lower_long : q < length (lower row lows)
    lower_long = omega (arith, length-zip2 (λ a b. a + b) (twice (take (length row / 2) row)) lows (low_long d i n row steps fine hi en row_long es ∙ sym ((lens d i n row steps fine hi en row_long es).0 ∙ row_long)), low_long d i n row steps fine hi en row_long es)

    upper_long : q < length (upper row highs)
    upper_long = omega (arith, length-zip2 (λ a b. a + b) (twice (drop (length row / 2) row)) highs (high_long d i n row steps fine hi en row_long es ∙ sym ((lens d i n row steps fine hi en row_long es).1 ∙ row_long)), high_long d i n row steps fine hi en row_long es)

    least_at : get_or (least (lower row lows) (upper row highs)) q 0 ≡ best t (i + 1) q
    least_at =
        let x = get_or (lower row lows) q 0 in
        let y = get_or (upper row highs) q 0 in
        at_least (lower row lows) (upper row highs) q lower_long upper_long
        ∙ best_from t i q x y (min x y) _ low_way high_way refl (ap (λ m. min m (2 ^ 63)) (lesser x y))

    pub decided : cond (get_or (seconds (lower row lows) (upper row highs)) q false) 1 0 ≡ digit (decision t i q)
    decided =
        ap (λ b. cond b 1 0) (at_seconds (lower row lows) (upper row highs) q lower_long upper_long ∙ (λ z. ltb (high_way z) (low_way z)))
        ∙ cond_digit (decision t i q)

  pub next_is : least (lower row lows) (upper row highs) ≡ best_row t (i + 1)
  next_is =
      let low = low_long d i n row steps fine hi en row_long es in
      let high = high_long d i n row steps fine hi en row_long es in
      let long = lens d i n row steps fine hi en row_long es in
      let l = rows_long (twice (take (length row / 2) row)) lows (twice (drop (length row / 2) row)) highs (long.0 ∙ row_long ∙ sym low) (high ∙ sym low) (long.1 ∙ row_long ∙ sym low) in
      let m = row_length t (i + 1) in
      ext_get_or 0 (least (lower row lows) (upper row highs)) (best_row t (i + 1)) (l.0 ∙ low ∙ en ∙ sym m)
      (λ q h. let hq : q < n = omega (arith, l.0, low) in least_at q hq ∙ sym (row_at t (i + 1) q (inside q hq)))

  row_small : (q : ℕ) → q < length row → get_or row q 0 ≤ 2 ^ 63
  row_small q h = omega (arith, ap (λ l. get_or l q 0) er, row_at t i q (omega (arith, row_long)), best_le t fine.some_state i q)

  -- the halves of the steps are the ways from the row
  pub ways : (low high : List ℕ) → low ≡ lows → high ≡ highs → AreWays row low high
  ways = are_ways d i n row steps fine hi en row_long es row_small
