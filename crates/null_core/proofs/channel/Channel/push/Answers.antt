use Rattle.std.proofs.Common.{◌∙◌, ◌++◌, ap, arith, length, take}
use Rattle.std.proofs.lemmas.List.{length-append, length-take-le, take_all}
use Rattle.dsd_bits.proofs.ExitLaws.{no_ok}
use Rattle.null_core.proofs.BlockLaws.{added_more}
use Rattle.null_core.proofs.channel.Channel.push.Goals as goal

pub loop-from-preserved : goal.loop-from-preserved
loop-from-preserved c = record {
  inside = c.in_ok-from.ensures.inside;
  added = added_more c.args.self.now c.loop-from.self c.push_some.new.self c.args.bits.now c.loop-from.from c.in_ok-from.from (omega (arith, c.in_ok-from.ensures.after)) c.loop-from.invariant.added c.in_ok-from.ensures.added;
}

pub returns-in_err-from : goal.returns-in_err-from
returns-in_err-from c = no_ok _ _ c.from_residual.result c.from_residual.ensures.1

pub push_some-requires : goal.push_some-requires
push_some-requires c = record {
  some = omega (arith, c.loop-from-test.true, c.len-count.ensures.value);
  fits = omega (arith, ap length c.loop-from.invariant.added, length-append c.args.self.now (take c.loop-from.from c.args.bits.now), length-take-le c.loop-from.from c.args.bits.now c.loop-from.invariant.inside, c.requires);
}

pub returns : goal.returns
returns c =
    c.loop-from.invariant.added ∙ ap (λ l. c.args.self.now ++ l) (take_all c.loop-from.from c.args.bits.now (omega (arith, c.loop-from-test.false, c.len-count.ensures.value)))
