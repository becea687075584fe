use Rattle.std.proofs.Common.{◌≡◌, ℕ, ◌+◌, ◌<◌, ◌≤◌, [], get_or, length, pos}
use Rattle.std.specs.Prelude.{replicate}
use Rattle.fir_core.proofs.strides.moved.Given as goal

-- the vectors before this one have moved, and the others are zeros
abbrev pub invariant-loop-k : goal.invariant-loop-k
invariant-loop-k g l = record {
  long : length l.moved ≡ g.row.N;
  done : (i : ℕ) → i < l.k → get_or l.moved i [] ≡ get_or l.near (i + 1) [];
  rest : (i : ℕ) → l.k ≤ i → i < g.row.N → get_or l.moved i [] ≡ replicate 8 (pos 0);
}
