use Rattle.std.proofs.Common.{ℕ, List, inr, subst, sym}
use Rattle.std.specs.Borrow.{Bor}
use Rattle.command_core.specs.Hosts.{PrintsSome, State}
use Rattle.command_core.specs.SumEndings.{WordComesTo}
use Rattle.command_core.proofs.SumLaws.{next_has, prints_more}
use Rattle.command_core.proofs.sums.run_sums.Goals as goal

pub loop-file-preserved : goal.loop-file-preserved
loop-file-preserved g c = (
  next_has (WordComesTo c.args.is_check) (λ (file : Bor (List ℕ)). file.now) c.args.files.now c.loop-file.file-index _ _ _ _ c.loop-file.worst c.in-Ok.status c.or-worst.result c.loop-file-test.true c.loop-file.invariant.0 c.in-Ok.ensures.comes c.or-worst.ensures,
  prints_more _ _ _ c.loop-file.invariant.1 c.word_status.ensures.printed,
)

pub returns-in-Err : goal.returns-in-Err
returns-in-Err g c = inr (c.unwritten.ensures.failed, subst (λ (s : State). PrintsSome (g.H.Host.state c.args.host.now) s) (sym c.unwritten.ensures.same) (prints_more _ _ _ c.loop-file.invariant.1 c.word_status.ensures.printed))
