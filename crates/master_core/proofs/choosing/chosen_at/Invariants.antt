use Rattle.std.proofs.Common.{◌≡◌, take}
use Rattle.std.specs.List.{All}
use Rattle.master_core.proofs.choosing.chosen_at.Given as goal

abbrev pub invariant-loop-k : goal.invariant-loop-k
invariant-loop-k l = record { others : All (λ q. q ≡ l.place → ⊥) (take l.k l.places) }
