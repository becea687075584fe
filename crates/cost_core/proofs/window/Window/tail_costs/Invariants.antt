-- To each state's number the squared deviations of the places so far are added.
use Rattle.std.proofs.Common.{◌≡◌, ℕ, ◌+◌, ◌*◌, ◌%◌, ◌^◌, ◌<◌, ◌≤◌, length, drop, get_or}
use Rattle.cost_core.specs.Trellis.{steps}
use Rattle.cost_core.specs.StateCosts.{step_of}
use Rattle.cost_core.proofs.window.Window.tail_costs.Given as goal

abbrev pub invariant-loop-place : goal.invariant-loop-place
invariant-loop-place l =
    let d = l.self in
    let w = length d.preceding in
    record {
      long : length l.row ≡ 2 ^ w;
      ending : l.ending < 2 ^ w;
      row : (q : ℕ) → q < 2 ^ w → get_or l.row q 0 ≤ l.place * (33562624 * 33562624);
      sums : (q : ℕ) → q < 2 ^ w → get_or l.row q 0 + steps w (step_of d) (d.levels + l.place) ((q * 2 ^ l.place + l.ending) % 2 ^ w) (drop l.place d.following) ≡ steps w (step_of d) d.levels q d.following;
    }
