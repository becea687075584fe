-- The ways into the states of a row by the steps of a level.
use Rattle.std.proofs.Common.{◌≡◌, ℕ, ◌+◌, ◌*◌, ◌/◌, ◌^◌, ◌<◌, ◌≤◌, List, take, drop, length, get_or, sym, ap, ◌∙◌, arith}
use Rattle.std.proofs.lemmas.List.{get_or-take, get_or-drop, length-take-le, length-drop}
use Rattle.cost_core.specs.Trellis.{Trellis, states, newest, IsBounded}
use Rattle.cost_core.specs.Bridges.{Bridging}
use Rattle.cost_core.specs.StateCosts.{step_of, step_row, trellis_of}
use Rattle.cost_core.specs.Rows.{twice, lower, upper}
use Rattle.cost_core.specs.Ways.{AreWays}
use Rattle.cost_core.proofs.Chunks.{at_sums}
use Rattle.cost_core.proofs.Twice.{at_twice, length-twice}
use Rattle.cost_core.proofs.StepRows.{states_even, step_0, step_1, steps_length}

module _ (d : Bridging) (i n : ℕ) (old steps : List ℕ) (fine : IsBounded (trellis_of d)) (hi : i < d.levels) (en : n ≡ states (trellis_of d)) (el : length old ≡ n) (es : steps ≡ step_row d i) where
  abbrev t : Trellis
  t = trellis_of d

  pub halves : n ≡ 2 * (n / 2)
  halves = omega (arith, states_even t.width n fine.some_state en)

  pub some_states : 0 < n
  some_states = omega (arith, fine.start_in)

  steps_long : length steps ≡ n + n
  steps_long = steps_length d i 0 n steps es en (omega (arith, some_states)) ∙ omega arith

  pub lens : (length (take n steps) ≡ length old) × (length (drop n steps) ≡ length old)
  lens = (length-take-le n steps (omega (arith, steps_long)) ∙ sym el, length-drop n steps ∙ omega (arith, steps_long))

  pub low_long : length (twice (take (length old / 2) old)) ≡ n
  low_long = length-twice (take (length old / 2) old) ∙ ap (λ k. 2 * k) (length-take-le (length old / 2) old (omega arith)) ∙ omega (arith, el, halves)

  pub high_long : length (twice (drop (length old / 2) old)) ≡ n
  high_long = length-twice (drop (length old / 2) old) ∙ ap (λ k. 2 * k) (length-drop (length old / 2) old) ∙ omega (arith, el, halves)

  module _ (q : ℕ) (hq : q < n) where
    inside : q < states t
    inside = omega arith

    low_step : get_or (take n steps) q 0 ≡ step_of d i (q / 2) (newest q)
    low_step = get_or-take n steps q 0 hq ∙ step_0 d i q n steps es en inside

    high_step : get_or (drop n steps) q 0 ≡ step_of d i (q / 2 + n / 2) (newest q)
    high_step = get_or-drop n steps q 0 ∙ step_1 d i q n steps es en inside fine.some_state

    -- the sums by both ways into a state
    pub low_sum : get_or (lower old (take n steps)) q 0 ≡ get_or old (q / 2) 0 + step_of d i (q / 2) (newest q)
    low_sum =
        let half = take (length old / 2) old in
        let value : get_or (twice half) q 0 ≡ get_or old (q / 2) 0 = at_twice half q ∙ get_or-take (length old / 2) old (q / 2) 0 (omega (arith, el, halves)) in
        at_sums (twice half) (take n steps) q (omega (arith, low_long)) (omega (arith, lens.0, el)) ∙ (λ z. value z + low_step z)

    pub high_sum : get_or (upper old (drop n steps)) q 0 ≡ get_or old (q / 2 + n / 2) 0 + step_of d i (q / 2 + n / 2) (newest q)
    high_sum =
        let half = drop (length old / 2) old in
        let e : length old / 2 + q / 2 ≡ q / 2 + n / 2 = omega (arith, el) in
        let value : get_or (twice half) q 0 ≡ get_or old (q / 2 + n / 2) 0 = at_twice half q ∙ get_or-drop (length old / 2) old (q / 2) 0 ∙ ap (λ k. get_or old k 0) e in
        at_sums (twice half) (drop n steps) q (omega (arith, high_long)) (omega (arith, lens.1, el)) ∙ (λ z. value z + high_step z)

    low_small : get_or (take n steps) q 0 < 2 ^ 63
    low_small = omega (arith, low_step, fine.step_in i (q / 2) (newest q) hi (omega (arith, inside)))

    high_small : get_or (drop n steps) q 0 < 2 ^ 63
    high_small = omega (arith, high_step, fine.step_in i (q / 2 + n / 2) (newest q) hi (omega (arith, inside, halves)))

  -- the halves of the steps are the ways from a row of small values
  pub are_ways : ((q : ℕ) → q < length old → get_or old q 0 ≤ 2 ^ 63) → (lows highs : List ℕ) → lows ≡ take n steps → highs ≡ drop n steps → AreWays old lows highs
  are_ways small lows highs low_is high_is = record {
    even = states_even t.width (length old) fine.some_state (el ∙ en);
    lows_len = ap length low_is ∙ lens.0;
    highs_len = ap length high_is ∙ lens.1;
    old_small = small;
    lows_small = rw low_is (λ q h. low_small q (omega (arith, lens.0, el)));
    highs_small = rw high_is (λ q h. high_small q (omega (arith, lens.1, el)));
  }
