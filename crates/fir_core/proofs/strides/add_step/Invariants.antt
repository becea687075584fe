use Rattle.std.proofs.Common.{◌≡◌, ℕ, ℤ, ◌+◌, ◌-◌, ◌*◌, ◌+ℤ◌, length, get_or}
use Rattle.dsd_bits.specs.Sums.{sum_below}
use Rattle.fir_core.specs.Lookup.{groups_at, last_group}
use Rattle.fir_core.specs.Strides.{AreNear}
use Rattle.fir_core.proofs.strides.add_step.Given as goal

-- the bytes before this place are added
abbrev pub invariant-loop-place : goal.invariant-loop-place
invariant-loop-place g l = record {
  long : length l.near ≡ g.row.N;
  sums : (f : ℕ → ℤ) → AreNear g.row.N f l.initial.near
      → AreNear g.row.N (λ c. f c +ℤ sum_below l.place (λ q. last_group l.of.lookup.taps.now (groups_at l.of.lookup.step l.of.lookup.span q (l.of.lookup.span - 8 * g.row.N + c)) (get_or l.bytes (l.u * l.of.lookup.step + q) 0))) l.near;
}
