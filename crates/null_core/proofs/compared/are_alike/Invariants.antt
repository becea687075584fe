use Rattle.std.proofs.Common.{◌≡◌, ℕ, ◌+◌, ◌<◌, false, get_or}
use Rattle.null_core.proofs.compared.are_alike.Given as goal

abbrev pub invariant-loop-k : goal.invariant-loop-k
invariant-loop-k l = record { alike : (i : ℕ) → i < l.k → get_or l.bits (l.at + i) false ≡ get_or l.others (l.own + i) false }
