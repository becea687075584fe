use Rattle.std.proofs.Common.{[], refl, sym, ◌∙◌, arith}
use Rattle.std.proofs.Math.Seq.{drop-nil}
use Rattle.std.proofs.lemmas.Result.{IfOk-from_err}
use Rattle.player_core.proofs.NewLaws.{new_channels, new_fit}
use Rattle.player_core.proofs.player.Player.new.Goals as goal

pub streams_of-requires-clause-count : goal.streams_of-requires-clause-count
streams_of-requires-clause-count c = c.requires.sound.in_limit

pub returns-in_err-streams-clause-ready : goal.returns-in_err-streams-clause-ready
returns-in_err-streams-clause-ready c = IfOk-from_err c.from_residual.result _ c.from_residual.ensures.0

pub returns-in_err-streams-clause-made : goal.returns-in_err-streams-clause-made
returns-in_err-streams-clause-made c = IfOk-from_err c.from_residual.result _ c.from_residual.ensures.0

pub returns-in_err-streams-clause-fed : goal.returns-in_err-streams-clause-fed
returns-in_err-streams-clause-fed c = IfOk-from_err c.from_residual.result _ c.from_residual.ensures.0

pub returns-clause-made : goal.returns-clause-made
returns-clause-made c = (refl, refl, refl)

pub returns-clause-fed : goal.returns-clause-fed
returns-clause-fed c = record {
  fed = refl;
  held = c.new.ensures.items ∙ sym (drop-nil _);
  each = new_fit c.args.taps.now c.args.sound c.in_ok-streams.streams.items c.in_ok-streams.ensures.each;
}

pub returns-clause-ready : goal.returns-clause-ready
returns-clause-ready c = record {
  sound = c.requires.sound;
  whole = c.requires.whole;
  within = omega arith;
  number = c.in_ok-streams.ensures.number;
  each = new_channels c.args.taps.now c.args.sound c.in_ok-streams.streams.items c.in_ok-streams.ensures.each;
  history = ([], returns-clause-fed c);
}
