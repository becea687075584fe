-- The least and the greatest of the values so far.
use Rattle.std.proofs.Common.{◌≡◌, ◌≤◌, ◌<◌, ◌-◌, ℕ, min, max, take, drop, get_or}
use Rattle.std.specs.List.{fold}
use Rattle.cert_core.proofs.spelling.bounds_of.Given as goal

abbrev pub invariant-loop-place : goal.invariant-loop-place
invariant-loop-place l = (l.least ≡ fold min l.first (take (l.place - 1) (drop 1 l.row))) × (l.greatest ≡ fold max l.first (take (l.place - 1) (drop 1 l.row)))
    × ((q : ℕ) → q < l.place → l.least ≤ get_or l.row q 0)
