-- Least by states is least by places.
use Rattle.std.proofs.Common.{Bool, List, arith}
use Rattle.cost_core.specs.Trellis.{cost}
use Rattle.cost_core.specs.Least.{IsLeast, IsFirstLeast}
use Rattle.cost_core.specs.Bridges.{Bridging, IsLeastBridge, IsFirstLeastBridge}
use Rattle.cost_core.specs.StateCosts.{trellis_of}
use Rattle.cost_core.specs.Validity.{LeastFromValid}
use Rattle.cost_core.specs.Limits.{IsBridging}
use Rattle.cost_core.proofs.Limits.{costs_in_bounds}
use Rattle.cost_core.proofs.Places.{steps_are_cost}
use Rattle.cost_core.proofs.Walks.{bounds_cost}

module _ (d : Bridging) (fine : IsBridging d) (x : List Bool) where
  pub least_bridge : IsLeast d.levels (cost (trellis_of d)) x → IsLeastBridge d x
  least_bridge l = record {
    long = l.long;
    least = λ y e. omega (arith, steps_are_cost d x fine l.long, steps_are_cost d y fine e, l.least y e);
  }

  pub first_least_bridge : IsFirstLeast d.levels (cost (trellis_of d)) x → IsFirstLeastBridge d x
  first_least_bridge l = record {
    is_least = least_bridge l.is_least;
    first = λ y e same. l.first y e (omega (arith, steps_are_cost d x fine l.is_least.long, steps_are_cost d y fine e));
  }

pub least_from_valid : LeastFromValid
least_from_valid d bound c x fine e v =
    least_bridge d fine x (record { long = e; least = bounds_cost (trellis_of d) bound c x v (costs_in_bounds d fine).start_in })
