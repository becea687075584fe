use Rattle.std.proofs.Common.{◌≡◌, ℕ, ◌+◌, ◌<◌, ◌≤◌, get_or, length, pos}
use Rattle.fir_core.specs.Lookup.{sum_before}
use Rattle.fir_core.proofs.row_sums.add_last.Given as goal

-- the sums before this one are done, and the others are as they were
abbrev pub invariant-loop-k : goal.invariant-loop-k
invariant-loop-k l = record {
  done : (k : ℕ) → k < l.start + l.k → get_or l.sums k (pos 0) ≡ sum_before l.spot.lookup.taps.now l.spot.bytes.now l.spot.lookup.step (l.spot.p + 1) k;
  rest : (k : ℕ) → l.start + l.k ≤ k → k < length l.sums → get_or l.sums k (pos 0) ≡ sum_before l.spot.lookup.taps.now l.spot.bytes.now l.spot.lookup.step l.spot.p k;
}
