use Rattle.std.proofs.Common.{ℕ, ◌<◌, IsTrue}
use Rattle.clip_core.specs.Contents.{mix_content}
use Rattle.null_core.specs.Holding.{serves}
use Rattle.null_core.proofs.ranges.holder.Given as goal

abbrev pub invariant-loop-earlier : goal.invariant-loop-earlier
invariant-loop-earlier l = (j : ℕ) → j < l.earlier → IsTrue (serves (mix_content l.mix) l.clip j) → ⊥
