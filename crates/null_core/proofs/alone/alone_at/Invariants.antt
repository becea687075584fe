use Rattle.std.proofs.Common.{ℕ, ◌<◌, ◌≤◌, List, map, take}
use Rattle.null_core.specs.declared.alone.Heard.{Heard}
use Rattle.null_core.specs.Alone.{AreHeard}
use Rattle.null_core.specs.Parts.{PartContent, part_content}
use Rattle.null_core.proofs.alone.alone_at.Given as goal

-- what is heard of these parts from a place on
pub record AreHeardFrom (parts : List PartContent) (m : ℕ) (heard : Heard) (until : ℕ) : Type 0 where
  pub some : m < until
  pub each : (k : ℕ) → m ≤ k → k < until → AreHeard heard parts m k

abbrev pub invariant-loop-part : goal.invariant-loop-part
invariant-loop-part l = AreHeardFrom (map part_content (take l.part-index l.parts)) l.m l.heard l.until
