use Rattle.std.proofs.Common.{◌≡◌}
use Rattle.toml.specs.View.{members_view, table_view}
use Rattle.project_core.specs.Tables.{has_only}
use Rattle.project_core.proofs.table.has_only.Given as goal

abbrev pub invariant-loop-name : goal.invariant-loop-name
invariant-loop-name l = has_only l.keys (members_view l.name-iterator) ≡ has_only l.keys (table_view l.table)
