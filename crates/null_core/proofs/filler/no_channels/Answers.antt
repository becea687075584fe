use Rattle.std.proofs.Common.{◌≡◌, Bool, List, [], ap, arith, replicate, ◌∙◌}
use Rattle.std.proofs.lemmas.Result.{IfOk-from_err}
use Rattle.sound_core.proofs.KeeperLaws.{one_more}
use Rattle.null_core.proofs.filler.no_channels.Goals as goal

pub loop-channel-init : goal.loop-channel-init
loop-channel-init c = c.new-made.ensures.items

pub loop-channel-preserved : goal.loop-channel-preserved
loop-channel-preserved c = one_more c.loop-channel._channel [] c.loop-channel.made.items c.new.result c.push.new.self.items c.loop-channel.invariant c.new.ensures c.in_ok-push.ensures.items

pub loop-channel-smaller : goal.loop-channel-smaller
loop-channel-smaller c = omega (arith, c.loop-channel-test.true, c.loop-channel.auto._channel-end)

pub returns : goal.returns
returns c =
    let all : c.loop-channel._channel ≡ c.args.number = omega (arith, c.loop-channel-test.false, c.loop-channel.auto._channel-end) in
    c.loop-channel.invariant ∙ ap (λ n. replicate {A = List Bool} n []) all

pub returns-in_err-push : goal.returns-in_err-push
returns-in_err-push c = IfOk-from_err c.from_residual.result _ c.from_residual.ensures.0
