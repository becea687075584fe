use Rattle.std.proofs.Common.{◌<◌, ℕ, map}
use Rattle.clip_core.specs.Contents.{mix_content}
use Rattle.cut_core.specs.Excerpts.{excerpts_content}
use Rattle.null_core.specs.Fitting.{ClipFits, read_shapes}
use Rattle.null_core.specs.Holding.{clip_at}
use Rattle.null_core.proofs.fitting.first_misfit.Given as goal

abbrev pub invariant-loop-clip : goal.invariant-loop-clip
invariant-loop-clip l = (i : ℕ) → i < l.clip → ClipFits (read_shapes (map excerpts_content l.takes)) (clip_at (mix_content l.mix) i)
