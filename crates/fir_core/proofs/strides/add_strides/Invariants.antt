use Rattle.std.proofs.Common.{◌≡◌, ℕ, ◌+◌, ◌*◌, ◌/◌, ◌<◌, get_or, length, pos, w32}
use Rattle.std.specs.Int.{int_wrap}
use Rattle.dsd_bits.specs.Sums.{sum_below}
use Rattle.fir_core.specs.Strides.{stride_sum}
use Rattle.fir_core.proofs.strides.add_strides.Given as goal

-- the steps of the strides so far are in the sums
abbrev pub invariant-loop-s : goal.invariant-loop-s
invariant-loop-s g l = record {
  long : length l.sums ≡ length l.initial.sums;
  sums : (j : ℕ) → j + 15 < 8 * (length l.initial.sums / 8) → get_or l.sums (j + 7) (pos 0) ≡ int_wrap w32 (sum_below l.s (λ s. stride_sum l.of.lookup.taps.now l.bytes l.of.lookup.step l.of.lookup.span g.row.N s (j + 7)));
}
