use Rattle.std.proofs.Common.{ℕ, List, map, take}
use Rattle.std.specs.Borrow.{Bor}
use Rattle.command_core.specs.Hosts.{PrintsSome}
use Rattle.command_core.specs.SumEndings.{HaveWorst, WordComesTo}
use Rattle.command_core.proofs.sums.run_sums.Given as goal

abbrev pub invariant-loop-file : goal.invariant-loop-file
invariant-loop-file g l = HaveWorst (WordComesTo l.is_check) (map (λ (file : Bor (List ℕ)). file.now) (take l.file-index l.files)) (g.H.Host.state l.fn.host) (g.H.Host.state l.host) l.worst
    × PrintsSome (g.H.Host.state l.fn.host) (g.H.Host.state l.host)
