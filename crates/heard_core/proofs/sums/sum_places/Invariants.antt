use Rattle.std.proofs.Common.{◌≡◌, length}
use Rattle.heard_core.specs.Pieces.{sums_before}
use Rattle.heard_core.proofs.sums.sum_places.Given as goal

abbrev pub invariant-loop-p : goal.invariant-loop-p
invariant-loop-p l = l.sums ≡ sums_before l.source.taps.now l.p l.source.bits.now l.place (length l.fn.sums)
