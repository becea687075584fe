use Rattle.std.proofs.Common.{arith, ap, length, length-append, [], ◌∷◌, ◌∙◌}
use Rattle.dsd_bits.proofs.ExitLaws.{no_value}
use Rattle.fir_core.specs.Streams.{State}
use Rattle.player_core.proofs.NewLaws.{one_new_more}
use Rattle.player_core.proofs.player.streams_of.Goals as goal

pub loop-channel-preserved : goal.loop-channel-preserved
loop-channel-preserved c =
    let new : State → State = λ s. record { decimator = s.decimator; count = s.count; fed = 0; held = [] } in
    record {
      number = omega (arith, ap length c.in_ok-push.ensures.items, length-append c.loop-channel.streams.items (c.in_ok-stream.stream ∷ []), c.loop-channel.invariant.number);
      each = one_new_more c.args.taps.now c.args.sound.now.count c.loop-channel.streams.items c.push.new.self.items c.in_ok-stream.stream c.in_ok-push.ensures.items c.loop-channel.invariant.each
          c.in_ok-stream.ensures.ready (c.in_ok-stream.ensures.made ∙ ap new c.in_ok-first.ensures.made) c.in_ok-stream.ensures.fits;
    }

pub returns : goal.returns
returns c = record {
  number = omega (arith, ap length c.in_ok-push-2.ensures.items, length-append c.loop-channel.streams.items (c.in_ok-first.first ∷ []), c.loop-channel.invariant.number, c.loop-channel-test.false);
  each = one_new_more c.args.taps.now c.args.sound.now.count c.loop-channel.streams.items c.push-2.new.self.items c.in_ok-first.first c.in_ok-push-2.ensures.items c.loop-channel.invariant.each c.in_ok-first.ensures.ready c.in_ok-first.ensures.made c.in_ok-first.ensures.fits;
}

pub returns-in_err-first : goal.returns-in_err-first
returns-in_err-first c = record {
  number = no_value _ _ c.from_residual.result c.from_residual.ensures.1;
  each = no_value _ _ c.from_residual.result c.from_residual.ensures.1;
}

pub returns-in_err-stream : goal.returns-in_err-stream
returns-in_err-stream c = record {
  number = no_value _ _ c.from_residual-in_err-stream.result c.from_residual-in_err-stream.ensures.1;
  each = no_value _ _ c.from_residual-in_err-stream.result c.from_residual-in_err-stream.ensures.1;
}

pub returns-in_err-push : goal.returns-in_err-push
returns-in_err-push c = record {
  number = no_value _ _ c.from_residual-in_err-push.result c.from_residual-in_err-push.ensures.1;
  each = no_value _ _ c.from_residual-in_err-push.result c.from_residual-in_err-push.ensures.1;
}

pub returns-in_err-push-2 : goal.returns-in_err-push-2
returns-in_err-push-2 c = record {
  number = no_value _ _ c.from_residual-in_err-push-2.result c.from_residual-in_err-push-2.ensures.1;
  each = no_value _ _ c.from_residual-in_err-push-2.result c.from_residual-in_err-push-2.ensures.1;
}
