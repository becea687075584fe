use Rattle.std.proofs.Common.{[], Some, arith, refl}
use Rattle.joined_core.specs.Givers.{way_of}
use Rattle.dsdarc_c.specs.declared.joined.JoinStage.TheVariants as joins
use Rattle.dsdarc_c.proofs.JoinedLaws.{misfits_own, stage_is}
use Rattle.dsdarc_c.proofs.joined_choosing.start.Goals as goal

pub give-requires-clause-joined : goal.give-requires-clause-joined
give-requires-clause-joined c =
    let e = c.in-Ok.ensures in
    record {
      bare = e.keeps;
      layout = e.chosen.0;
      pulled = omega arith;
      giver = c.requires.ready;
      known = tt;
      misfits = misfits_own (Some c.args.shape) c.args.sound.count c.choose.new.p.stage c.args.sound (e.own c.args.sound c.requires.open.1);
      shape = c.requires.shape;
      few = omega (arith, c.requires.few);
    }

pub give-requires-clause-none : goal.give-requires-clause-none
give-requires-clause-none c = c.clear.ensures.items

pub returns-in-Ok-give-clause-plays : goal.returns-in-Ok-give-clause-plays
returns-in-Ok-give-clause-plays c way before file pulled plays =
    let w = stage_is way before file pulled c.args.p.now joins.Choosing c.requires.open.0 plays in
    c.give.ensures.plays (way_of c.args.giver) [] file [] [] (c.in-Ok.ensures.plays file 0 plays.bits w.0) refl c.requires.new
