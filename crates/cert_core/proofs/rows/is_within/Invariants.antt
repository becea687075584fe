-- No state so far exceeds what either state before it sets.
use Rattle.std.proofs.Common.{◌*◌}
use Rattle.cert_core.specs.Within.{WithinBoth}
use Rattle.cert_core.proofs.rows.is_within.Given as goal

abbrev pub invariant-loop-i : goal.invariant-loop-i
invariant-loop-i l = WithinBoth (8 * (2 * l.i)) l.ways.old.now l.ways.lows.now l.ways.highs.now l.row
