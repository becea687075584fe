use Rattle.std.proofs.Common.{◌≡◌, ℕ, ◌<◌, ◌*◌, ◌/◌, ◌%◌, take, get_or, cond, false}
use Rattle.std.specs.Int.{bit_at}
use Rattle.cost_core.specs.Rows.{seconds, least, lower, upper}
use Rattle.trellis_core.proofs.choosing.choose_by_eights.Given as goal

abbrev pub invariant-loop-i : goal.invariant-loop-i
invariant-loop-i l = record {
  row : take (8 * (2 * l.i)) l.row ≡ take (8 * (2 * l.i)) (least (lower l.ways.old.now l.ways.lows.now) (upper l.ways.old.now l.ways.highs.now));
  choices : (k : ℕ) → k < 8 * (2 * l.i) → bit_at (get_or l.choices (k / 8) 0) (k % 8) ≡ cond (get_or (seconds (lower l.ways.old.now l.ways.lows.now) (upper l.ways.old.now l.ways.highs.now)) k false) 1 0;
}
