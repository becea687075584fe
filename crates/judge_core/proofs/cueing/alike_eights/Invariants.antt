use Rattle.std.proofs.Common.{◌≡◌, ℕ, ◌+◌, ◌*◌, ◌<◌}
use Rattle.dsd_bits.specs.Shifting.{byte_from}
use Rattle.judge_core.proofs.cueing.alike_eights.Given as goal

abbrev pub invariant-loop-k : goal.invariant-loop-k
invariant-loop-k l = record { alike : (k : ℕ) → k < l.k → byte_from l.part (l.at + 8 * k) ≡ byte_from l.cue (l.own + 8 * k) }
