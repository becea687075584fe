use Rattle.std.proofs.Common.{◌≡◌, ℕ, ◌+◌, ◌-◌, ◌<◌, ◌≤◌, false, get_or}
use Rattle.null_core.proofs.channel.Channel.alike.Given as goal

abbrev pub invariant-loop-done : goal.invariant-loop-done
invariant-loop-done l = record { few : l.done ≤ l.most; alike : (k : ℕ) → k < l.done → get_or l.self (l.at + k) false ≡ get_or l.others (l.own + k) false }

abbrev pub decreases-loop-done : goal.decreases-loop-done
decreases-loop-done l = l.most - l.done
