use Rattle.std.proofs.Common.{◌≡◌, ℕ, ℤ, ◌+◌, ◌-◌, ◌*◌, ◌<◌, ◌≤◌, ◌+ℤ◌, get_or, length, pos, w32}
use Rattle.std.specs.Int.{int_wrap}
use Rattle.fir_core.specs.Strides.{AreNear, steps_sum, stride_sum}
use Rattle.fir_core.proofs.strides.add_stride.Given as goal

-- the vectors hold the steps so far
abbrev pub invariant-loop-early : goal.invariant-loop-early
invariant-loop-early g l = AreNear g.row.N (λ c. steps_sum l.of.lookup.taps.now l.bytes l.of.lookup.step l.of.lookup.span l.s l.early (l.of.lookup.span - 8 * g.row.N + c)) l.near

-- and the sums before these eight are done, while the others are as they were
abbrev pub invariant-loop-t : goal.invariant-loop-t
invariant-loop-t g l = record {
  near : AreNear g.row.N (λ c. steps_sum l.of.lookup.taps.now l.bytes l.of.lookup.step l.of.lookup.span l.s (l.t + (g.row.N - 1)) (l.of.lookup.span - 8 * g.row.N + c)) l.near;
  long : length l.sums ≡ length l.initial.sums;
  done : (i : ℕ) → l.s ≤ i → i < l.s + 8 * l.t → (x : ℤ) → get_or l.initial.sums i (pos 0) ≡ int_wrap w32 x → get_or l.sums i (pos 0) ≡ int_wrap w32 (x +ℤ stride_sum l.of.lookup.taps.now l.bytes l.of.lookup.step l.of.lookup.span g.row.N l.s i);
  rest : (i : ℕ) → l.s + 8 * l.t ≤ i → get_or l.sums i (pos 0) ≡ get_or l.initial.sums i (pos 0);
}
