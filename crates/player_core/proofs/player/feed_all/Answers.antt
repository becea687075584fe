use Rattle.std.proofs.Common.{◌≡◌, ◌+◌, ◌-◌, ◌≤◌, ◌++◌, ◌∙◌, refl, sym, subst, ap, arith, length, map}
use Rattle.std.specs.Int.{div_ceil}
use Rattle.std.proofs.lemmas.Result.{IfOk-from_err}
use Rattle.fir_core.specs.StreamView.{IsStream}
use Rattle.fir_core.specs.declared.stream.Stream.{Stream}
use Rattle.std.specs.List.{range_with_len}
use Rattle.player_core.specs.Due.{channel_bits, frames_due}
use Rattle.player_core.specs.Frames.{tile_of}
use Rattle.player_core.proofs.LoopLaws.{groups_next, own_parts, own_sound}
use Rattle.player_core.proofs.player.feed_all.Goals as goal

pub loop-channel-preserved : goal.loop-channel-preserved
loop-channel-preserved c =
    groups_next c.args.groups c.args.streams.now c.loop-channel.streams c.loop-channel.tile.items c.feed_one.new.tile.items c.loop-channel.channel c.feed_one.new.stream c.index-streams-channel.result
    c.loop-channel.invariant c.loop-channel-test.true c.requires.channels.0 c.in_ok-feed_one.ensures.ready
    c.in_ok-feed_one.ensures.ok
    c.in_ok-feed_one.ensures.fed c.in_ok-feed_one.ensures.same.0 c.in_ok-feed_one.ensures.same.1

pub returns-clause-channels : goal.returns-clause-channels
returns-clause-channels c = λ d count fed are k t h. (c.loop-channel.invariant.every (own_sound c.args.groups count) c.args.groups.bytes.now (own_parts c.args.groups count)).done d fed are k t (omega (arith, c.loop-channel.invariant.long, c.loop-channel-test.false))

pub returns-clause-fed : goal.returns-clause-fed
returns-clause-fed c = λ s bytes has d fed are prefix k long was is all.
    let so = (c.loop-channel.invariant.every s bytes has).fits d fed are prefix k long was is all in
    let every : c.loop-channel.channel ≡ s.channels = omega (arith, c.loop-channel.invariant.long, c.loop-channel-test.false, c.loop-channel.auto.channel-end, c.requires.channels.0, has.number) in (
      λ i t h. so.0 i t (omega (arith, c.loop-channel.invariant.long, c.loop-channel-test.false)),
      so.1 ∙ ap (λ n. tile_of d (map (channel_bits s (prefix ++ bytes)) (range_with_len 0 n)) (frames_due d s (length prefix)) (frames_due d s (length (prefix ++ bytes)) - frames_due d s (length prefix))) every,
    )

pub loop-channel-init : goal.loop-channel-init
loop-channel-init c = record {
  long = refl;
  later = λ k t h. refl;
  every = λ s bytes has. record {
    long = refl;
    later = λ k t h. refl;
    done = λ d fed are k t h. absurd (omega arith);
    fits = λ d fed are prefix k long was is all. (λ i t h. absurd (omega arith), c.clear.ensures.items);
  };
}

pub offset_bounds-streams-channel : goal.offset_bounds-streams-channel
offset_bounds-streams-channel c = omega (arith, c.loop-channel-test.true, c.requires.channels.0, c.requires.channels.1)

pub bounds-streams-channel : goal.bounds-streams-channel
bounds-streams-channel c = omega (arith, c.loop-channel-test.true, c.loop-channel.invariant.long)

-- the next stream is as it was
pub feed_one-requires-clause-ready : goal.feed_one-requires-clause-ready
feed_one-requires-clause-ready c =
    subst IsStream (sym (c.loop-channel.invariant.later c.loop-channel.channel c.index-streams-channel.result (omega arith)))
    (c.requires.ready c.loop-channel.channel c.index-streams-channel.result c.loop-channel-test.true).0

pub feed_one-requires-clause-few : goal.feed_one-requires-clause-few
feed_one-requires-clause-few c =
    subst (λ (t : Stream). t.fed + c.args.groups.number ≤ div_ceil t.count 8) (sym (c.loop-channel.invariant.later c.loop-channel.channel c.index-streams-channel.result (omega arith)))
    (c.requires.ready c.loop-channel.channel c.index-streams-channel.result c.loop-channel-test.true).1

pub feed_one-requires-clause-channel : goal.feed_one-requires-clause-channel
feed_one-requires-clause-channel c = (omega (arith, c.loop-channel-test.true, c.requires.channels.0), c.requires.channels.1)

pub feed_one-requires-clause-enough : goal.feed_one-requires-clause-enough
feed_one-requires-clause-enough c = c.requires.enough

pub returns-in_err-feed_one-clause-channels : goal.returns-in_err-feed_one-clause-channels
returns-in_err-feed_one-clause-channels c = IfOk-from_err c.from_residual.result _ c.from_residual.ensures.0

pub returns-in_err-feed_one-clause-fed : goal.returns-in_err-feed_one-clause-fed
returns-in_err-feed_one-clause-fed c = IfOk-from_err c.from_residual.result _ c.from_residual.ensures.0
