use Rattle.std.proofs.Common.{◌≡◌, arith, subst}
use Rattle.std.proofs.lemmas.Result.{IfOk-from_err}
use Rattle.transfer_commands.specs.Digesting.{HoldNothing}
use Rattle.transfer_commands.proofs.DigestLaws.{no_hashers, nothing_more}
use Rattle.transfer_commands.proofs.digesting.new_hashers.Goals as goal

pub loop-channel-init : goal.loop-channel-init
loop-channel-init c = no_hashers _ c.new-made.ensures.items

pub loop-channel-preserved : goal.loop-channel-preserved
loop-channel-preserved c = nothing_more c.loop-channel.made.items c.push.new.self.items c.loop-channel._channel c.new.result c.loop-channel.invariant c.new.ensures c.in_ok-push.ensures.items

pub loop-channel-smaller : goal.loop-channel-smaller
loop-channel-smaller c = omega (arith, c.loop-channel-test.true, c.loop-channel.auto._channel-end)

pub returns : goal.returns
returns c =
    let all : c.loop-channel._channel ≡ c.args.number = omega (arith, c.loop-channel-test.false, c.loop-channel.auto._channel-end) in
    subst (HoldNothing c.loop-channel.made.items) all c.loop-channel.invariant

pub returns-in_err-push : goal.returns-in_err-push
returns-in_err-push c = IfOk-from_err c.from_residual.result _ c.from_residual.ensures.0
