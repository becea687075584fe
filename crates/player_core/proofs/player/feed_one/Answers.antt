use Rattle.std.proofs.Common.{◌≡◌, ◌∙◌, ap, arith, length, refl}
use Rattle.std.proofs.lemmas.Result.{IfOk-from_err}
use Rattle.player_core.specs.Groups.{channel_part}
use Rattle.player_core.proofs.GroupLaws.{length-part}
use Rattle.player_core.proofs.player.feed_one.Goals as goal
use Rattle.player_core.proofs.player.feed_one.Goals.{After-as_slice}

bytes_are : (c : After-as_slice) → c.as_slice.result.now ≡ channel_part c.args.groups.interleaving c.args.groups.channels c.args.groups.bytes.now c.args.channel 0 c.args.groups.number
bytes_are c = c.as_slice.ensures.value ∙ c.in_ok-fill_channel.ensures

number_is : (c : After-as_slice) → length c.as_slice.result.now ≡ c.args.groups.number
number_is c = ap length (bytes_are c) ∙ length-part c.args.groups.interleaving c.args.groups.channels c.args.groups.bytes.now c.args.channel 0 c.args.groups.number

pub feed-requires-clause-few : goal.feed-requires-clause-few
feed-requires-clause-few c = omega (arith, number_is (goal.at.feed-requires-clause-few c).After-as_slice, c.requires.few)

pub returns-clause-ok : goal.returns-clause-ok
returns-clause-ok c = rw (← bytes_are (goal.at.returns-clause-ok c).After-as_slice) c.feed.ensures.ok

pub returns-clause-fed : goal.returns-clause-fed
returns-clause-fed c = rw (← number_is (goal.at.returns-clause-fed c).After-as_slice) c.feed.ensures.fed

pub fill_channel-requires-clause-channel : goal.fill_channel-requires-clause-channel
fill_channel-requires-clause-channel c = c.requires.channel

pub fill_channel-requires-clause-enough : goal.fill_channel-requires-clause-enough
fill_channel-requires-clause-enough c = c.requires.enough

pub feed-requires-clause-ready : goal.feed-requires-clause-ready
feed-requires-clause-ready c = c.requires.ready

pub returns-in_err-fill_channel-clause-ready : goal.returns-in_err-fill_channel-clause-ready
returns-in_err-fill_channel-clause-ready c = c.requires.ready

pub returns-in_err-fill_channel-clause-ok : goal.returns-in_err-fill_channel-clause-ok
returns-in_err-fill_channel-clause-ok c = IfOk-from_err c.from_residual.result _ c.from_residual.ensures.0

pub returns-in_err-fill_channel-clause-fed : goal.returns-in_err-fill_channel-clause-fed
returns-in_err-fill_channel-clause-fed c = IfOk-from_err c.from_residual.result _ c.from_residual.ensures.0

pub returns-in_err-fill_channel-clause-same : goal.returns-in_err-fill_channel-clause-same
returns-in_err-fill_channel-clause-same c = (refl, refl)

pub returns-clause-ready : goal.returns-clause-ready
returns-clause-ready c = c.feed.ensures.ready

pub returns-clause-same : goal.returns-clause-same
returns-clause-same c = c.feed.ensures.same
