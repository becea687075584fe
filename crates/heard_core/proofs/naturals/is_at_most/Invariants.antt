use Rattle.std.proofs.Common.{◌≤◌, take}
use Rattle.std.specs.Prelude.{◌↔◌, IsTrue}
use Rattle.heard_core.specs.Naturals.{natural}
use Rattle.heard_core.proofs.naturals.is_at_most.Given as goal

abbrev pub invariant-loop-i : goal.invariant-loop-i
invariant-loop-i l = IsTrue l.at_most ↔ (natural (take l.i l.left) ≤ natural (take l.i l.right))
