use Rattle.std.proofs.Common.{ℕ, List, map}
use Rattle.std.specs.Borrow.{Bor}
use Rattle.command_core.specs.Hosts.{PrintsSome}
use Rattle.command_core.specs.SumEndings.{HaveWorst, LineComesTo}
use Rattle.command_core.proofs.sums.check_lines.Given as goal

abbrev pub invariant-loop-line : goal.invariant-loop-line
invariant-loop-line g l = HaveWorst LineComesTo (map (λ (line : Bor (List ℕ)). line.now) l.yielded) (g.H.Host.state l.fn.host) (g.H.Host.state l.host) l.worst
    × PrintsSome (g.H.Host.state l.fn.host) (g.H.Host.state l.host)
