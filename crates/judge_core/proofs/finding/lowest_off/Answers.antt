use Rattle.std.proofs.Common.{arith}
use Rattle.judge_core.proofs.LowestLaws.{all_hold, lowest_is}
use Rattle.judge_core.proofs.finding.lowest_off.Goals as goal

pub returns-in-Some : goal.returns-in-Some
returns-in-Some c = λ r shape states.
    lowest_is c.args.cut.now c.can_cut.ensures c.can_cut.ensures.splicing.some_cues r shape c.args.firsts.now states c.loop-channel.channel c.in-Some.place (omega (arith, c.requires)) c.loop-channel.invariant.none c.in-Some.is

pub returns : goal.returns
returns c = λ r shape states.
    all_hold c.args.cut.now c.can_cut.ensures c.can_cut.ensures.splicing.some_cues r shape c.args.firsts.now states (λ k there. c.loop-channel.invariant.none k (omega (arith, there, c.requires)))
