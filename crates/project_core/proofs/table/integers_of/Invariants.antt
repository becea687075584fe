use Rattle.std.proofs.Common.{◌≡◌}
use Rattle.project_core.specs.Reading.{integer_of, integers_of}
use Rattle.project_core.specs.Tables.{list_of}
use Rattle.toml.specs.View.{items_view}
use Rattle.project_core.proofs.Each.{values_left}
use Rattle.project_core.proofs.table.integers_of.Given as goal

abbrev pub invariant-loop-value : goal.invariant-loop-value
invariant-loop-value l = values_left (λ _. integer_of l.key l.place) l.integers.items l.value-index l.values ≡ integers_of l.key l.place (list_of (items_view l.values))
