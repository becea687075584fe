use Rattle.std.proofs.Common.{arith, inr, map, refl}
use Rattle.std.proofs.lemmas.Bool.{false≢true}
use Rattle.null_core.specs.Parts.{part_content}
use Rattle.null_core.proofs.OwnLaws.{other_source, own_more}
use Rattle.null_core.proofs.own.own_until.Goals as goal

pub returns-then-not-is_source : goal.returns-then-not-is_source
returns-then-not-is_source c =
    let so_far = c.loop-until.invariant in
    let next = c.own_piece-next.ensures in
    record {
      after = so_far.after;
      inside = so_far.inside;
      same = so_far.same;
      ends = inr (other_source (map part_content c.args.parts.now) c.args.bits.now c.loop-until.until c.args.source c.own_piece-next.result.source (next.same c.loop-until.until (omega arith) next.some) (λ is. false≢true (c.if-not-is_source.ensures.1 is)));
    }

pub loop-until-preserved : goal.loop-until-preserved
loop-until-preserved c =
    let so_far = c.loop-until.invariant in
    let next = c.own_piece-next.ensures in
    record {
      after = omega (arith, so_far.after, next.some);
      inside = next.inside;
      same = own_more (map part_content c.args.parts.now) c.args.bits.now c.args.high c.args.source c.args.from c.loop-until.until c.own_piece-next.result so_far.same next (c.if-not-is_source.ensures.0 refl);
    }
