use Rattle.std.proofs.Common.{◌≡◌, ℕ, ◌*◌, ◌<◌, get_or, length, pos}
use Rattle.fir_core.specs.Lookup.{IsSpot, sum_before}
use Rattle.fir_core.proofs.row_sums.sum_steps.Given as goal

-- the bytes so far are in the sums
abbrev pub invariant-loop-block : goal.invariant-loop-block
invariant-loop-block l = record {
  long : length l.sums ≡ length l.initial.sums;
  spot : IsSpot l.lookup.step (8 * l.block) l.window l.place;
  sums : (k : ℕ) → k < length l.sums → get_or l.sums k (pos 0) ≡ sum_before l.lookup.taps.now l.bytes l.lookup.step (8 * l.block) k;
}

abbrev pub invariant-loop-p : goal.invariant-loop-p
invariant-loop-p l = record {
  long : length l.sums ≡ length l.initial.sums;
  spot : IsSpot l.lookup.step l.p l.window l.place;
  sums : (k : ℕ) → k < length l.sums → get_or l.sums k (pos 0) ≡ sum_before l.lookup.taps.now l.bytes l.lookup.step l.p k;
}
