-- The limits of a bridge's window.
use Rattle.std.specs.Prelude.{◌≡◌, ℕ, suc, ◌+◌, ◌*◌, ◌^◌, ◌≤◌, ℤ, Bool, List, length, unsigned_abs}
use Rattle.splice_core.specs.Cues.{AreWeights}
use Rattle.cost_core.specs.Bridges.{Bridging, target}

-- a bridge within the limits: as many bits on either side as there are weights but one, a target no greater than the weights allow
pub record IsBridging (d : Bridging) : Type 0 where
  pub weights_in : AreWeights d.weights
  pub before : suc (length d.preceding) ≡ length d.weights
  pub after : suc (length d.following) ≡ length d.weights
  pub levels_in : d.levels ≤ 4096
  pub target_in : (i : ℕ) → unsigned_abs (target d i) ≤ (d.levels + 1) * 4096

-- the greatest absolute value of a scaled weighted sum and of a target
abbrev pub greatest_sum : ℕ
greatest_sum = 4097 * 4096

-- the greatest squared deviation: it is below 2 ^ 51
abbrev pub greatest_step : ℕ
greatest_step = (2 * greatest_sum) * (2 * greatest_sum)

-- a fade of n bits can be made, from the end `stop` of a cue in the take a to the start of a cue in the take b
pub record CanFade (weights : List ℤ) (a : List Bool) (stop : ℕ) (b : List Bool) (start levels : ℕ) : Type 0 where
  pub weights_in : AreWeights weights
  pub levels_in : levels ≤ 4096
  pub stop_in : stop ≤ 2 ^ 36
  pub start_in : start ≤ 2 ^ 36
  pub before_in : length weights ≤ stop + 1
  pub after_in : start + length weights ≤ length b + 1
  pub before_b : levels + length weights ≤ start + 1
  pub after_a : stop + levels ≤ length a
