use Rattle.std.proofs.Common.{◌≡◌, ℕ, ◌*◌, ◌<◌, ◌≤◌, [], drop, get_or, length, take}
use Rattle.heard_core.specs.Products.{IsAdded, dot}
use Rattle.heard_core.proofs.products.add_group.Given as goal

-- the products are added to the sums before this one, and the others are as they were
abbrev pub invariant-loop-w : goal.invariant-loop-w
invariant-loop-w g l = record {
  long : length l.sums ≡ g.row.N;
  done : (v : ℕ) → v < l.w → IsAdded (dot (take 4 l.taps) (drop (v * l.step) l.errors)) (get_or l.initial.sums v []) (get_or l.sums v []);
  rest : (v : ℕ) → l.w ≤ v → get_or l.sums v [] ≡ get_or l.initial.sums v [];
}
