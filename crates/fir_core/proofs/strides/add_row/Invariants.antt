use Rattle.std.proofs.Common.{◌≡◌, ℕ, ◌*◌, ◌<◌, ◌≤◌, [], get_or, length, map, take, drop, to_z, of_z, w32}
use Rattle.std.specs.Simd.Lanes.{zip2}
use Rattle.fir_core.proofs.LaneSums.{wrap_add}
use Rattle.fir_core.proofs.strides.add_row.Given as goal

-- the vectors before this one have their numbers added, and the others are as they were
abbrev pub invariant-loop-k : goal.invariant-loop-k
invariant-loop-k g l = record {
  long : length l.near ≡ g.row.N;
  done : (i : ℕ) → i < l.k → get_or l.near i [] ≡ map (to_z w32) (zip2 wrap_add (map (of_z w32) (get_or l.initial.near i [])) (map (of_z w32) (take 8 (drop (8 * i) l.row))));
  rest : (i : ℕ) → l.k ≤ i → get_or l.near i [] ≡ get_or l.initial.near i [];
}
