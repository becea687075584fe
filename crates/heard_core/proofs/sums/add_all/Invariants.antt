use Rattle.std.proofs.Common.{◌≡◌, ℕ, ◌<◌, ◌≤◌, ◌+ℤ◌, get_or, length, pos}
use Rattle.heard_core.proofs.sums.add_all.Given as goal

-- the sums before this one are added to, and the others are as they were
abbrev pub invariant-loop-i : goal.invariant-loop-i
invariant-loop-i l = record {
  done : (k : ℕ) → k < l.i → get_or l.sums k (pos 0) ≡ get_or l.initial.sums k (pos 0) +ℤ get_or l.more k (pos 0);
  rest : (k : ℕ) → l.i ≤ k → k < length l.sums → get_or l.sums k (pos 0) ≡ get_or l.initial.sums k (pos 0);
}
