use Rattle.std.proofs.Common.{◌≡◌, drop}
use Rattle.project_core.specs.Steps.{each}
use Rattle.project_core.specs.Reading.{signed_of}
use Rattle.project_core.proofs.Each.{with_prefix}
use Rattle.project_core.proofs.table.narrow.Given as goal

abbrev pub invariant-loop-integer : goal.invariant-loop-integer
invariant-loop-integer l = with_prefix l.numbers.items (each (λ _. signed_of l.key l.place) l.integer-index (drop l.integer-index l.integers)) ≡ each (λ _. signed_of l.key l.place) 0 l.integers
