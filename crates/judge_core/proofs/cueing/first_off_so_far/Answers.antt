use Rattle.std.proofs.Common.{subst, sym}
use Rattle.judge_core.specs.Comparing.{FindsFirst, IsOffPart, FindsOff}
use Rattle.judge_core.proofs.OffLaws.{next_first, still_first}
use Rattle.judge_core.proofs.cueing.first_off_so_far.Goals as goal

pub returns-in-Some : goal.returns-in-Some
returns-in-Some c = λ before long states. still_first c.args.cut.now c.args.channel before c.args.part.now c.in-Some.place (subst (FindsOff c.args.cut.now c.args.channel before) c.in-Some.is states)

pub returns-in-None : goal.returns-in-None
returns-in-None c = λ before long states.
    next_first c.args.cut.now c.args.channel before c.args.part.now (subst (FindsOff c.args.cut.now c.args.channel before) c.in-None.is states) c.first_off.result
    (subst (λ n. FindsFirst (IsOffPart c.args.cut.now c.args.channel n c.args.part.now) c.first_off.result) (sym long) c.first_off.ensures)
