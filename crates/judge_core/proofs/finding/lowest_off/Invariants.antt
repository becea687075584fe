use Rattle.std.proofs.Common.{◌≡◌, ℕ, ◌<◌, None, get_or}
use Rattle.judge_core.proofs.finding.lowest_off.Given as goal

abbrev pub invariant-loop-channel : goal.invariant-loop-channel
invariant-loop-channel l = record { none : (c : ℕ) → c < l.channel → get_or l.firsts c None ≡ None }
