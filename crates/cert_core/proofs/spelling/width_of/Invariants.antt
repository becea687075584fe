-- As many of the steps so far as the number reaches.
use Rattle.std.proofs.Common.{◌≡◌, ◌≤◌, leb, take}
use Rattle.std.specs.List.{count_by}
use Rattle.cert_core.proofs.spelling.width_of.Given as goal

abbrev pub invariant-loop-step : goal.invariant-loop-step
invariant-loop-step l = (l.width ≡ count_by (λ step. leb step l.number) (take l.step-index l.step-items)) × (l.width ≤ l.step-index)
