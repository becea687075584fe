use Rattle.std.proofs.Common.{◌≡◌, ◌*◌, ◌^◌}
use Rattle.heard_core.specs.Naturals.{natural}
use Rattle.heard_core.proofs.naturals.multiply_by_power.Given as goal

abbrev pub invariant-loop : goal.invariant-loop
invariant-loop l = natural l.limbs.items ≡ natural l.initial.limbs.items * l.factor ^ l.counter
