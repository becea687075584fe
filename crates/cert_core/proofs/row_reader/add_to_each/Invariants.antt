-- The number was added to the values so far, and the others are as they were.
use Rattle.std.proofs.Common.{◌≡◌, ℕ, ◌+◌, ◌≤◌, map, take, length, get_or}
use Rattle.cert_core.proofs.row_reader.add_to_each.Given as goal

abbrev pub invariant-loop-place : goal.invariant-loop-place
invariant-loop-place l = (length l.row ≡ length l.initial.row) × (take l.place l.row ≡ map (λ v. l.least + v) (take l.place l.initial.row))
    × ((q : ℕ) → l.place ≤ q → get_or l.row q 0 ≡ get_or l.initial.row q 0)
