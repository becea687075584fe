-- No cost within the limits leaves its type.
use Rattle.std.proofs.Common.{ℕ, ◌+◌, ◌*◌, ◌/◌, ◌%◌, ◌^◌, ◌<◌, ◌≤◌, Bool, eqb, List, [], ◌∷◌, ◌++◌, length, arith, pos, ◌-ℤ◌, unsigned_abs}
use Rattle.std.proofs.lemmas.Int.{unsigned_abs-mul}
use Rattle.std.proofs.lemmas.Nat.{mul-le, pow_pos}
use Rattle.std.proofs.lemmas.List.{length-append}
use Rattle.cost_core.specs.Trellis.{digit, next, state_after, steps}
use Rattle.cost_core.specs.Weighted.{weighted_code, square}
use Rattle.cost_core.specs.Bridges.{Bridging, target}
use Rattle.cost_core.specs.StateCosts.{scaled, deviation, step_of, CostsInBounds}
use Rattle.cost_core.specs.Limits.{IsBridging}
use Rattle.cost_core.proofs.SumLaws.{abs_sub, weighed_in}
use Rattle.cost_core.proofs.Places.{cost_steps}

module _ (d : Bridging) (fine : IsBridging d) where
  pub code_in : (code : ℕ) → unsigned_abs (weighted_code d.weights code) ≤ 4096
  unfolding weighted_code
  code_in code = omega (arith, weighed_in d.weights (λ k. eqb (code / 2 ^ k % 2) 1), fine.weights_in.small_sum)

  pub scaled_in : (code : ℕ) → unsigned_abs (scaled d code) ≤ 4097 * 4096
  scaled_in code =
      rw (unsigned_abs-mul (pos (d.levels + 1)) (weighted_code d.weights code)) (mul-le (d.levels + 1) (unsigned_abs (weighted_code d.weights code)) 4097 4096 (omega (arith, fine.levels_in)) (code_in code))

  pub target_small : (i : ℕ) → unsigned_abs (target d i) ≤ 4097 * 4096
  target_small i = omega (arith, fine.target_in i, fine.levels_in)

  pub deviation_in : (level code : ℕ) → deviation d level code ≤ 33562624 * 33562624
  unfolding deviation square
  deviation_in level code =
      let h : unsigned_abs (scaled d code -ℤ target d (level + 1)) ≤ 33562624 = omega (arith, abs_sub (scaled d code) (target d (level + 1)), scaled_in code, target_small (level + 1)) in
      mul-le _ _ 33562624 33562624 h h

  pub steps_in : (y : List Bool) (level q : ℕ) → steps (length d.preceding) (step_of d) level q y ≤ length y * (33562624 * 33562624)
  unfolding steps
  steps_in [] level q = omega arith
  steps_in (bit ∷ y) level q = omega (arith, deviation_in level (2 * q + digit bit), steps_in y (level + 1) (next (length d.preceding) q bit))

pub state_in : (width : ℕ) (y : List Bool) (q : ℕ) → q < 2 ^ width → state_after width q y < 2 ^ width
unfolding state_after
state_in width [] q h = h
state_in width (bit ∷ y) q h = state_in width y (next width q bit) (omega (arith, pow_pos width))

pub costs_in_bounds : CostsInBounds
costs_in_bounds d fine =
    let width : length d.preceding ≤ 11 = omega (arith, fine.before, fine.weights_in.few_weights) in
    let after : length d.following ≤ 11 = omega (arith, fine.after, fine.weights_in.few_weights) in
    record {
      some_state = omega (arith, fine.before, fine.weights_in.two_weights);
      start_in = state_in (length d.preceding) d.preceding 0 (pow_pos (length d.preceding));
      step_in = λ level q bit hl hq. omega (arith, deviation_in d fine level (2 * q + digit bit));
      tail_in = λ q hq. omega (arith, steps_in d fine d.following d.levels q);
      cost_in = λ x e.
          omega (
            arith,
            cost_steps d x e,
            steps_in d fine (x ++ d.following) 0 (state_after (length d.preceding) 0 d.preceding),
            length-append x d.following,
            fine.levels_in,
            e,
          );
    }
